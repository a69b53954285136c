use Rattle.pool_laws.proofs.Moved.{steps_move}
use Rattle.pool_laws.proofs.laws.steps_move.Goals as goal

pub returns : goal.returns
returns c = steps_move
