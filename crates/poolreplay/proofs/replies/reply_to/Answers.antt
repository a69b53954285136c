use Rattle.std.proofs.Common.{subst}
use Rattle.std.specs.Prelude.{Err}
use Rattle.trace_reader.specs.declared.acts.Forms.TheVariants as forms
use Rattle.trace_reader.specs.declared.refusal.TraceRefused.{TraceRefused}
use Rattle.trace_reader.specs.Text.{ReadsTrace}
use Rattle.poolreplay.proofs.ReplyLemmas.{refused_reply}
use Rattle.poolreplay.proofs.replies.reply_to.Goals as goal

pub returns-in-Err-Bad : goal.returns-in-Err-Bad
returns-in-Err-Bad c =
    refused_reply c.args.moves c.args.bytes.now c.in-Err-Bad.error _ _
    (subst (λ (refusal : TraceRefused). ReadsTrace forms.All c.args.bytes.now (Err refusal)) c.in-Err-Bad.field-0-is c.in-Err-Bad.ensures)
    c.refused.ensures
