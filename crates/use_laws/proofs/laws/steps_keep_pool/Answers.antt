use Rattle.use_laws.proofs.Keeps.{steps_keep_pool}
use Rattle.use_laws.proofs.laws.steps_keep_pool.Goals as goal

pub returns : goal.returns
returns c = steps_keep_pool
