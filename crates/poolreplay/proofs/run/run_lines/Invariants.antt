use Rattle.std.proofs.Common.{drop}
use Rattle.poolreplay.proofs.Steps.{IsUnderWay}
use Rattle.poolreplay.proofs.run.run_lines.Given as goal

abbrev pub invariant-loop-line : goal.invariant-loop-line
invariant-loop-line l = record {
  way : IsUnderWay l.threads l.line-index l.run.pool l.run.places l.run.report l.initial.run.report l.lines (drop l.line-index l.lines);
}
