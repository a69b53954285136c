use Rattle.backend_moves.proofs.Wholes.{wholes_are_turned}
use Rattle.backend_moves.proofs.laws.wholes_are_turned.Goals as goal

pub returns : goal.returns
returns c = wholes_are_turned
