use Rattle.put_moves.proofs.Drains.{drains_turn}
use Rattle.put_moves.proofs.laws.drains_turn.Goals as goal

pub returns : goal.returns
returns c = drains_turn
