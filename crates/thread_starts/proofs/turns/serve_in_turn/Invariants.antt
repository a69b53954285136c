use Rattle.std.proofs.Common.{◌≡◌}
use Rattle.thread_lines.specs.Working.{Works}
use Rattle.thread_starts.specs.Crews.{Each, threads_of}
use Rattle.thread_starts.proofs.turns.serve_in_turn.Given as goal

abbrev pub invariant-loop-place : goal.invariant-loop-place
invariant-loop-place g l = record {
  works : Each (Works g.R.Raw.out g.R.Raw.faults g.R.Raw.got g.R.Raw.passed l.pools l.board.table.shared.table_id l.lines) l.workers;
  threads : threads_of l.workers ≡ threads_of l.fn.workers;
}
