use Rattle.object_moves.proofs.Looks.{looks_turn}
use Rattle.object_moves.proofs.laws.looks_turn.Goals as goal

pub returns : goal.returns
returns c = looks_turn
