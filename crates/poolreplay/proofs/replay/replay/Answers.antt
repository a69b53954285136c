use Rattle.poolreplay.proofs.StatusLemmas.{comes, spelled_runs}
use Rattle.poolreplay.proofs.replay.replay.Goals as goal

pub returns-in-Ok-clause-complete : goal.returns-in-Ok-clause-complete
returns-in-Ok-clause-complete g c = comes _ _ _ _ _ _ _ _ _ c.due-reply.ensures.due c.due-reply.ensures.fault

pub returns-in-Ok-clause-run : goal.returns-in-Ok-clause-run
returns-in-Ok-clause-run g c =
    spelled_runs _ _ _ _ _ _ _ _ _ c.due-reply.ensures.due c.due-reply.ensures.fault
