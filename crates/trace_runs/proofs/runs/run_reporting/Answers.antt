-- The report of what the lines came to, and then of what stands.
use Rattle.trace_runs.proofs.RunLemmas.{reports_end, reports_none}
use Rattle.trace_runs.proofs.runs.run_reporting.Goals as goal

pub returns-in-Ok : goal.returns-in-Ok
returns-in-Ok c =
    reports_end c.args.trace.now c.args.moves c.args.report c.in-Ok.run' c.report_of.result c.requires c.in-Ok.ensures
    c.report_of.ensures.report c.report_of.ensures.memory

pub returns-in-Err : goal.returns-in-Err
returns-in-Err c =
    reports_none c.args.trace.now c.args.moves c.args.report c.in-Err.error c.requires c.in-Err.ensures
