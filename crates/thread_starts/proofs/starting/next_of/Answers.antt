use Rattle.thread_starts.proofs.CrewLemmas.{is_next}
use Rattle.thread_starts.proofs.starting.next_of.Goals as goal

pub returns-clause-some : goal.returns-clause-some
returns-clause-some g c = is_next g.R.Raw.out g.R.Raw.faults g.R.Raw.got g.R.Raw.passed c.args._pools.now c.args._board.now.table.shared.table_id c.args._lines.now c.args.workers.items _ c.in_ok-worker.ensures.items c.requires
