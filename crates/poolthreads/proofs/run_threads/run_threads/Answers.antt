use Rattle.poolthreads.proofs.StatusLemmas.{comes}
use Rattle.poolthreads.proofs.run_threads.run_threads.Goals as goal

pub returns-in-Ok-clause-complete : goal.returns-in-Ok-clause-complete
returns-in-Ok-clause-complete g c =
    comes _ _ _ _ _ _ _ _ _ _ c.due-reply.ensures.due c.due-reply.ensures.fault
