use Rattle.pool_laws.proofs.Moved.{moves_keep_whole}
use Rattle.pool_laws.proofs.laws.moves_keep_whole.Goals as goal

pub returns : goal.returns
returns c = moves_keep_whole
