-- The span stays.
use Rattle.std.proofs.Common.{◌≡◌}
use Rattle.regions.proofs.tests.no_more_than_64_regions_are_out.Given as goal

abbrev pub invariant-loop-i : goal.invariant-loop-i
invariant-loop-i g l = l.office.limits.span ≡ 1024
