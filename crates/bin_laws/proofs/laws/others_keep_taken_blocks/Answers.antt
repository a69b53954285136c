use Rattle.bin_laws.proofs.Takes.{others_keep_taken_blocks}
use Rattle.bin_laws.proofs.laws.others_keep_taken_blocks.Goals as goal

pub returns : goal.returns
returns c = others_keep_taken_blocks
