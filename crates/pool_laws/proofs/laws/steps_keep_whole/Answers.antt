use Rattle.pool_laws.proofs.Moved.{steps_keep_whole}
use Rattle.pool_laws.proofs.laws.steps_keep_whole.Goals as goal

pub returns : goal.returns
returns c = steps_keep_whole
