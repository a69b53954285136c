use Rattle.backend_moves.proofs.Cuts.{cuts_are_turned}
use Rattle.backend_moves.proofs.laws.cuts_are_turned.Goals as goal

pub returns : goal.returns
returns c = cuts_are_turned
