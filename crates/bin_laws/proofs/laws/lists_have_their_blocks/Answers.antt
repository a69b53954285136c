use Rattle.bin_laws.proofs.Keeps.{lists_have_their_blocks}
use Rattle.bin_laws.proofs.laws.lists_have_their_blocks.Goals as goal

pub returns : goal.returns
returns c = lists_have_their_blocks
