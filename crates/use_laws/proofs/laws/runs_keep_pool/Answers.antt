use Rattle.use_laws.proofs.Keeps.{runs_keep_pool}
use Rattle.use_laws.proofs.laws.runs_keep_pool.Goals as goal

pub returns : goal.returns
returns c = runs_keep_pool
