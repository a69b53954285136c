-- The base is a multiple, and each multiple before it overlaps a region.
use Rattle.std.proofs.Common.{◌-◌, ◌^◌}
use Rattle.pool_types.proofs.Bases.{IsTried}
use Rattle.pool_types.proofs.scripted.least_free.Given as goal

abbrev pub invariant-loop-base : goal.invariant-loop-base
invariant-loop-base l = IsTried l.out l.bytes l.base

abbrev pub decreases-loop-base : goal.decreases-loop-base
decreases-loop-base l = 2 ^ 64 - l.base
