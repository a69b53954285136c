use Rattle.std.proofs.Common.{◌≡◌, ◌-◌, length}
use Rattle.thread_lines.specs.Working.{Works}
use Rattle.thread_lines.proofs.worker.serve_all.Given as goal

abbrev pub invariant-loop-worker : goal.invariant-loop-worker
invariant-loop-worker g l = Works g.R.Raw.out g.R.Raw.faults g.R.Raw.got g.R.Raw.passed l.pools l.board.table.shared.table_id l.lines l.worker × (l.worker.thread ≡ l.initial.worker.thread)

abbrev pub decreases-loop-worker : goal.decreases-loop-worker
decreases-loop-worker g l = length l.lines - l.worker.next
