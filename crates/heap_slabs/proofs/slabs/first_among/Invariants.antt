-- What is left from the list on decides.
use Rattle.std.proofs.Common.{◌≡◌, drop}
use Rattle.heap_slabs.specs.Slabs.{first_among}
use Rattle.heap_slabs.proofs.slabs.first_among.Given as goal

abbrev pub invariant-loop-list : goal.invariant-loop-list
invariant-loop-list l =
    first_among l.wanted l.records (drop l.from l.classes.lists) ≡ first_among l.wanted l.records (drop l.list
    l.classes.lists)
