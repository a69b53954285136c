-- The span stays.
use Rattle.std.proofs.Common.{◌≡◌}
use Rattle.regions.proofs.tests.a_fixed_office_gets_one_region.Given as goal

abbrev pub invariant-loop-want : goal.invariant-loop-want
invariant-loop-want g l = l.office.limits.span ≡ 16
