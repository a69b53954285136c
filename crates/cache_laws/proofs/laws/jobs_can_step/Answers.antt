use Rattle.cache_laws.proofs.Uses.{jobs_can_step}
use Rattle.cache_laws.proofs.laws.jobs_can_step.Goals as goal

pub returns : goal.returns
returns c = jobs_can_step
