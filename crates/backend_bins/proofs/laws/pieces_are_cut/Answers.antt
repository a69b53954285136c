use Rattle.backend_bins.proofs.Cuts.{pieces_are_cut}
use Rattle.backend_bins.proofs.laws.pieces_are_cut.Goals as goal

pub returns : goal.returns
returns c = pieces_are_cut
