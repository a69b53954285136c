use Rattle.object_moves.proofs.Large.{grants_turn}
use Rattle.object_moves.proofs.laws.grants_turn.Goals as goal

pub returns : goal.returns
returns c = grants_turn
