use Rattle.bin_laws.proofs.Takes.{won_blocks_are_of_the_bin}
use Rattle.bin_laws.proofs.laws.won_blocks_are_of_the_bin.Goals as goal

pub returns : goal.returns
returns c = won_blocks_are_of_the_bin
