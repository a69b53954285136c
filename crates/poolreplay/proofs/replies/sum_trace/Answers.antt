use Rattle.std.proofs.Common.{subst}
use Rattle.std.specs.Prelude.{Err}
use Rattle.trace_runs.specs.Runs.{Sums}
use Rattle.trace_runs.specs.declared.runs.RunError.{RunError}
use Rattle.poolreplay.proofs.ReplyLemmas.{run_summed, run_unsummed}
use Rattle.poolreplay.proofs.replies.sum_trace.Goals as goal

pub returns-in-Ok : goal.returns-in-Ok
returns-in-Ok c = run_summed c.args.bytes.now c.args.trace.now c.in-Ok.summary _ _ c.requires c.in-Ok.ensures c.reply_to_summary.ensures

pub returns-in-Err-StepsOut : goal.returns-in-Err-StepsOut
returns-in-Err-StepsOut c =
    run_unsummed c.args.bytes.now c.args.trace.now c.in-Err-StepsOut.line _ _ c.requires
    (subst (λ (e : RunError). Sums c.args.trace.now (Err e)) c.in-Err-StepsOut.field-0-is c.in-Err-StepsOut.ensures) c.reply_to_out.ensures
