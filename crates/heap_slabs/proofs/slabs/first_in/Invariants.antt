-- The search stands at a place, and what is left from it on decides.
use Rattle.std.proofs.Common.{◌≡◌, slice_get, drop}
use Rattle.index_lists.specs.Lists.{members}
use Rattle.heap_slabs.specs.Slabs.{first_in}
use Rattle.heap_slabs.proofs.slabs.first_in.Given as goal

abbrev pub invariant-loop-place : goal.invariant-loop-place
invariant-loop-place l = record {
  here : l.next ≡ slice_get (members l.classes l.list) l._place;
  left : first_in l.wanted l.records (members l.classes l.list) ≡ first_in l.wanted l.records (drop l._place (members
      l.classes l.list));
}
