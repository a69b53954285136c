-- The index is none of the members so far.
use Rattle.std.proofs.Common.{◌≡◌, take}
use Rattle.index_lists.specs.Lists.{times}
use Rattle.index_lists.proofs.tests.stands_in.Given as goal

abbrev pub invariant-loop-other : goal.invariant-loop-other
invariant-loop-other l = times l.index (take l.other-index l.found) ≡ 0
