use Rattle.step_fits.proofs.Follows.{gets_are_of_bins}
use Rattle.step_fits.proofs.laws.gets_are_of_bins.Goals as goal

pub returns : goal.returns
returns c = gets_are_of_bins
