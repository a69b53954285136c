-- What was found is the list up to a place, and the walk stands at that place.
use Rattle.std.proofs.Common.{◌≡◌, ◌-◌, length, slice_get, take}
use Rattle.index_lists.specs.Lists.{members}
use Rattle.index_lists.proofs.tests.walk.Given as goal

abbrev pub invariant-loop-next : goal.invariant-loop-next
invariant-loop-next l = record {
  here : l.next ≡ slice_get (members l.lists l.list) (length l.found.items);
  so_far : l.found.items ≡ take (length l.found.items) (members l.lists l.list);
}

abbrev pub decreases-loop-next : goal.decreases-loop-next
decreases-loop-next l = length (members l.lists l.list) - length l.found.items
