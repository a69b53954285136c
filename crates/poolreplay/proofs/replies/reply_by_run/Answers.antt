use Rattle.std.proofs.Common.{refl, subst}
use Rattle.std.specs.Prelude.{Err}
use Rattle.trace_runs.specs.Runs.{Runs}
use Rattle.trace_runs.specs.declared.runs.RunError.{RunError}
use Rattle.poolreplay.proofs.ReplyLemmas.{run_out, run_reported}
use Rattle.poolreplay.proofs.replies.reply_by_run.Goals as goal

pub returns-in-Ok : goal.returns-in-Ok
returns-in-Ok c = run_reported c.args.moves c.args.bytes.now c.args.trace.now c.in-Ok.report _ c.requires.spelled c.requires.other c.in-Ok.ensures refl

pub returns-in-Err-StepsOut : goal.returns-in-Err-StepsOut
returns-in-Err-StepsOut c =
    run_out c.args.moves c.args.bytes.now c.args.trace.now c.in-Err-StepsOut.line _ _ c.requires.spelled c.requires.other
    (subst (λ (e : RunError). Runs c.args.moves c.args.trace.now (Err e)) c.in-Err-StepsOut.field-0-is c.in-Err-StepsOut.ensures) c.reply_to_out.ensures
