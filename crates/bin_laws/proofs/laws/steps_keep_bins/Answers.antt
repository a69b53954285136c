use Rattle.bin_laws.proofs.Keeps.{steps_keep_bins}
use Rattle.bin_laws.proofs.laws.steps_keep_bins.Goals as goal

pub returns : goal.returns
returns c = steps_keep_bins
