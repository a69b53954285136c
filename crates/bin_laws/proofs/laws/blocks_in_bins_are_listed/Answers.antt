use Rattle.bin_laws.proofs.Keeps.{blocks_in_bins_are_listed}
use Rattle.bin_laws.proofs.laws.blocks_in_bins_are_listed.Goals as goal

pub returns : goal.returns
returns c = blocks_in_bins_are_listed
