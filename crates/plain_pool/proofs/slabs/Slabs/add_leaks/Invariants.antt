use Rattle.std.proofs.Common.{◌≡◌, ◌-◌, ◌++◌, List, length, drop}
use Rattle.plain_lists.specs.Lists.{OwnSlab}
use Rattle.plain_lists.specs.Held.{leaks_of}
use Rattle.plain_pool.specs.Slabs.{AreSlabs, AreKept, IsIn}
use Rattle.plain_pool.proofs.slabs.Slabs.add_leaks.Given as goal

-- the last so many objects were added
abbrev pub invariant-loop-done : goal.invariant-loop-done
invariant-loop-done l = (slabs : List OwnSlab) (own : OwnSlab) → AreSlabs l.self slabs → AreKept slabs → IsIn l.room own slabs →
    l.leaks.items ≡ l.fn.leaks.items ++ leaks_of own (length own.objects - l.done) (drop (length own.objects - l.done) own.objects)
