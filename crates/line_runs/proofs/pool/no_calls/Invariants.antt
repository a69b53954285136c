-- so many have begun none
use Rattle.std.proofs.Common.{◌≡◌}
use Rattle.line_runs.specs.Pools.{no_calls}
use Rattle.line_runs.proofs.pool.no_calls.Given as goal

abbrev pub invariant-loop : goal.invariant-loop
invariant-loop l = l.calls.items ≡ no_calls l.counter
