use Rattle.std.proofs.Common.{◌≡◌, ◌==◌, List, drop, filter, find, slice_get}
use Rattle.plain_lists.specs.Lists.{OwnSlab, has_free}
use Rattle.plain_pool.specs.Slabs.{AreSlabs, AreKept, rooms_of}
use Rattle.plain_pool.proofs.slabs.Slabs.open_room.Given as goal

-- the slabs of the class that were passed have no object to give
abbrev pub invariant-loop-place : goal.invariant-loop-place
invariant-loop-place l = (slabs : List OwnSlab) → AreSlabs l.self slabs → AreKept slabs →
    (l.next ≡ slice_get (rooms_of l.class slabs) l._place) × (find (has_free l.class) slabs ≡ find (has_free l.class) (drop l._place (filter (λ slab. slab.class == l.class) slabs)))
