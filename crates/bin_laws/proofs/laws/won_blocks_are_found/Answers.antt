use Rattle.bin_laws.proofs.Keeps.{won_blocks_are_found}
use Rattle.bin_laws.proofs.laws.won_blocks_are_found.Goals as goal

pub returns : goal.returns
returns c = won_blocks_are_found
