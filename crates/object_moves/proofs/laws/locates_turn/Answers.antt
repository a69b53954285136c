use Rattle.object_moves.proofs.Looks.{locates_turn}
use Rattle.object_moves.proofs.laws.locates_turn.Goals as goal

pub returns : goal.returns
returns c = locates_turn
