use Rattle.std.proofs.Common.{◌≡◌, drop}
use Rattle.trace_calls.specs.Pools.{pool_limits, limits_with}
use Rattle.trace_calls.proofs.pools.pool_limits.Given as goal

abbrev pub invariant-loop-option : goal.invariant-loop-option
invariant-loop-option l = limits_with l.limits (drop l.option-index l.options) ≡ pool_limits l.pool l.seats l.options
