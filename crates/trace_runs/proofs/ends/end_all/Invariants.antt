-- what is left, behind what is written, is all
use Rattle.std.proofs.Common.{◌≡◌, drop}
use Rattle.trace_runs.specs.Ending.{ends_from}
use Rattle.trace_runs.proofs.ends.end_all.Given as goal

abbrev pub invariant-loop-number : goal.invariant-loop-number
invariant-loop-number l = ends_from l.report l.number (drop l.number l.pools) ≡ ends_from l.fn.report 0 l.pools
