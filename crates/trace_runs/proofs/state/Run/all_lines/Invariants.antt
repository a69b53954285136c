-- What is left from here leads to all.
use Rattle.std.proofs.Common.{drop}
use Rattle.trace_runs.proofs.LinesLead.{LinesLead}
use Rattle.trace_runs.proofs.state.Run.all_lines.Given as goal

abbrev pub invariant-loop-line : goal.invariant-loop-line
invariant-loop-line l = LinesLead l.trace l.lines l.fn.self (drop l.line-index l.lines) l.self
