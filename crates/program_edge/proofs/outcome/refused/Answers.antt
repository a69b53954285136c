use Rattle.program_edge.proofs.CallerLemmas.{said_is}
use Rattle.program_edge.proofs.outcome.refused.Goals as goal

pub returns : goal.returns
returns c = said_is c.refused_text.result _ _ _ _ c.refused_text.ensures c.spoken.ensures.ok c.spoken.ensures.err
