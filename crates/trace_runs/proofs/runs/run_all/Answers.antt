-- From the first state on.
use Rattle.trace_runs.proofs.RunLemmas.{begun_ok, begun_err}
use Rattle.trace_runs.proofs.runs.run_all.Goals as goal

pub returns-in-Ok : goal.returns-in-Ok
returns-in-Ok c =
    begun_ok c.args.trace.now c.lines.result.now c.args.report c.args.moves c.begun-run.result c.all_lines.new.self
    c.lines.ensures c.begun-run.ensures c.in-Ok.ensures

pub returns-in-Err : goal.returns-in-Err
returns-in-Err c =
    begun_err c.args.trace.now c.lines.result.now c.args.report c.args.moves c.begun-run.result c.all_lines.new.self
    c.in-Err.error c.lines.ensures c.begun-run.ensures c.in-Err.ensures
