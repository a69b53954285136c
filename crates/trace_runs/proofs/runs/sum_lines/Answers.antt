-- The summary of what the lines came to.
use Rattle.trace_runs.proofs.RunLemmas.{sums_end, sums_none}
use Rattle.trace_runs.proofs.runs.sum_lines.Goals as goal

pub returns-in-Ok : goal.returns-in-Ok
returns-in-Ok c =
    sums_end c.args.trace.now c.in-Ok.run' c.summary_of.result c.in-Ok.ensures c.summary_of.ensures.summary
    c.summary_of.ensures.memory

pub returns-in-Err : goal.returns-in-Err
returns-in-Err c = sums_none c.args.trace.now c.in-Err.error c.in-Err.ensures
