-- The index stands in none of the lists up to this one.
use Rattle.std.proofs.Common.{◌≡◌, ◌<◌, ℕ}
use Rattle.index_lists.specs.Lists.{members, times}
use Rattle.index_lists.proofs.tests.is_free.Given as goal

abbrev pub invariant-loop-list : goal.invariant-loop-list
invariant-loop-list l = (k : ℕ) → k < l.list → times l.index (members l.lists k) ≡ 0
