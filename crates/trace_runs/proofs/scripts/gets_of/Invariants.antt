-- what was found, and then what is left, is all
use Rattle.std.proofs.Common.{◌≡◌, ◌++◌, drop}
use Rattle.trace_runs.specs.Scripts.{gets_of}
use Rattle.trace_runs.proofs.scripts.gets_of.Given as goal

abbrev pub invariant-loop-line : goal.invariant-loop-line
invariant-loop-line l = l.gets.items ++ gets_of l.pool (drop l.line-index l.lines) ≡ gets_of l.pool l.lines
