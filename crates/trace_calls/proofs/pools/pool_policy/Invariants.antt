use Rattle.std.proofs.Common.{◌≡◌, drop}
use Rattle.trace_calls.specs.Pools.{pool_policy, policy_with}
use Rattle.trace_calls.proofs.pools.pool_policy.Given as goal

abbrev pub invariant-loop-option : goal.invariant-loop-option
invariant-loop-option l = policy_with l.policy (drop l.option-index l.options) ≡ pool_policy l.options
