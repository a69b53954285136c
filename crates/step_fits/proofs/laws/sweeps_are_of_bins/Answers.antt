use Rattle.step_fits.proofs.Follows.{sweeps_are_of_bins}
use Rattle.step_fits.proofs.laws.sweeps_are_of_bins.Goals as goal

pub returns : goal.returns
returns c = sweeps_are_of_bins
