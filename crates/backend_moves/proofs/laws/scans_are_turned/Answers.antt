use Rattle.backend_moves.proofs.Scans.{scans_are_turned}
use Rattle.backend_moves.proofs.laws.scans_are_turned.Goals as goal

pub returns : goal.returns
returns c = scans_are_turned
