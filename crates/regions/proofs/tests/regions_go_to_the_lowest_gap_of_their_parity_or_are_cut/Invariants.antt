-- The span stays.
use Rattle.std.proofs.Common.{◌≡◌}
use Rattle.regions.proofs.tests.regions_go_to_the_lowest_gap_of_their_parity_or_are_cut.Given as goal

abbrev pub invariant-loop-want : goal.invariant-loop-want
invariant-loop-want g l = l.office.limits.span ≡ 64
