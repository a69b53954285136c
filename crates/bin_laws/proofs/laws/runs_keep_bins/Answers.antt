use Rattle.bin_laws.proofs.Keeps.{runs_keep_bins}
use Rattle.bin_laws.proofs.laws.runs_keep_bins.Goals as goal

pub returns : goal.returns
returns c = runs_keep_bins
