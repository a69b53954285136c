use Rattle.bin_laws.proofs.Takes.{taken_block_fits}
use Rattle.bin_laws.proofs.laws.taken_block_fits.Goals as goal

pub returns : goal.returns
returns c = taken_block_fits
