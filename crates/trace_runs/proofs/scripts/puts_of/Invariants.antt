-- what was found, and then what is left, is all
use Rattle.std.proofs.Common.{◌≡◌, ◌++◌, drop}
use Rattle.trace_runs.specs.Scripts.{puts_of}
use Rattle.trace_runs.proofs.scripts.puts_of.Given as goal

abbrev pub invariant-loop-line : goal.invariant-loop-line
invariant-loop-line l = l.puts.items ++ puts_of l.pool (drop l.line-index l.lines) ≡ puts_of l.pool l.lines
