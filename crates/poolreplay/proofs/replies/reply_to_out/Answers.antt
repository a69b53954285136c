use Rattle.program_edge.proofs.CallerLemmas.{said_is}
use Rattle.poolreplay.proofs.replies.reply_to_out.Goals as goal

pub returns : goal.returns
returns c = said_is c.steps_out_text.result _ _ _ _ c.steps_out_text.ensures c.spoken.ensures.ok c.spoken.ensures.err
