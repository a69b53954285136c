use Rattle.pool_laws.proofs.Moved.{runs_keep_whole}
use Rattle.pool_laws.proofs.laws.runs_keep_whole.Goals as goal

pub returns : goal.returns
returns c = runs_keep_whole
