use Rattle.object_moves.proofs.Ends.{ends_turn}
use Rattle.object_moves.proofs.laws.ends_turn.Goals as goal

pub returns : goal.returns
returns c = ends_turn
