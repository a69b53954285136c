use Rattle.thread_runs.proofs.GatherLemmas.{done_in_turn, no_heaps, works_of}
use Rattle.thread_runs.proofs.runs.run_lines.Goals as goal

pub run_workers-requires-clause-works : goal.run_workers-requires-clause-works
run_workers-requires-clause-works g c κs within =
    works_of g.R.Raw.out g.R.Raw.faults g.R.Raw.got g.R.Raw.passed c.args.tables.now
    c.args.board.now.table.shared.table_id c.args.lines.now c.args.threads c.in_ok-workers.workers.items
    c.in_ok-workers.ensures.workers

pub gather-requires-clause-columns : goal.gather-requires-clause-columns
gather-requires-clause-columns g c = no_heaps g.R.Raw.out g.R.Raw.faults g.R.Raw.got g.R.Raw.passed c.args.tables.now
    c.args.board.now.table.shared.table_id c.args.lines.now c.make_workers.new.columns c.in_ok-workers.ensures.columns

pub gather-requires-clause-threads : goal.gather-requires-clause-threads
gather-requires-clause-threads g c =
    (done_in_turn g.R.Raw.out g.R.Raw.faults g.R.Raw.got g.R.Raw.passed c.args.tables.now
    c.args.board.now.table.shared.table_id c.args.lines.now c.args.threads c.in_ok-workers.workers.items
    c.in_ok-done.done.items c.in_ok-workers.ensures.workers c.in_ok-workers.ensures.count
    c.in_ok-done.ensures.threads).0
