use Rattle.std.proofs.Common.{◌≡◌, ◌+◌, length, []}
use Rattle.name_board.specs.Board.{first_view}
use Rattle.thread_pools.specs.Crews.{AreWorkers}
use Rattle.thread_pools.specs.Pools.{IsFreshAt, HasColumns}
use Rattle.thread_pools.proofs.crews.make_workers.Given as goal

abbrev pub invariant-loop-left : goal.invariant-loop-left
invariant-loop-left g l = record {
  table : l.pens.table_id ≡ l.fn.pens.table_id;
  pens : l.pens.me ≡ (first_view l.left, []);
  columns : HasColumns (IsFreshAt g.R.Raw.out g.R.Raw.faults g.R.Raw.got g.R.Raw.passed) l.left l._pools l.columns;
  count : length l.workers.items + l.left ≡ l.threads;
  workers : AreWorkers g.R.Raw.out g.R.Raw.faults g.R.Raw.got g.R.Raw.passed l._pools l.board.table.shared.table_id l.lines
      l.threads l.workers.items;
}

abbrev pub decreases-loop-left : goal.decreases-loop-left
decreases-loop-left g l = l.left
