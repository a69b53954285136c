-- the workers that are not taken apart yet, and what came of the others
use Rattle.std.proofs.Common.{◌≡◌, ◌+◌, length}
use Rattle.thread_starts.specs.Crews.{Each, IsDone, threads_of}
use Rattle.thread_runs.specs.Gathering.{AreInTurn}
use Rattle.thread_runs.proofs.GatherLemmas.{AreGathered}
use Rattle.thread_runs.proofs.gathering.gather.Given as goal

abbrev pub invariant-loop-worker : goal.invariant-loop-worker
invariant-loop-worker g l = record {
  table : l.pens.table_id ≡ l.fn.pens.table_id;
  count : length l.all.items + length l.workers.items ≡ length l.fn.workers.items;
  threads : AreInTurn (length l.fn.workers.items) (threads_of l.workers.items);
  done : Each (IsDone g.R.Raw.out g.R.Raw.faults g.R.Raw.got g.R.Raw.passed l._tables l.board.table.shared.table_id
      l._lines)
      l.workers.items;
  gathered : AreGathered g.R.Raw.out g.R.Raw.faults g.R.Raw.got g.R.Raw.passed l._tables l.board.table.shared.table_id
      l._lines l.pens.me.0.known l.columns l.all.items;
}

abbrev pub decreases-loop-worker : goal.decreases-loop-worker
decreases-loop-worker g l = length l.workers.items
