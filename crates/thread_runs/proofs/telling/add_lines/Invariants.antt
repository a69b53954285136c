-- the lines before this one are told
use Rattle.std.proofs.Common.{take}
use Rattle.thread_runs.specs.Gathering.{said_by}
use Rattle.thread_runs.specs.Telling.{AreTold, Reports}
use Rattle.thread_runs.proofs.telling.add_lines.Given as goal

abbrev pub invariant-loop-place : goal.invariant-loop-place
invariant-loop-place l = record {
  told : AreTold l.trace l.place l.told.items;
  reports : Reports l.trace (said_by l.said) l.fn.report (take l.place l.trace.lines.items) l.report;
}
