use Rattle.use_laws.proofs.Bare.{blocks_in_hand_are_bare}
use Rattle.use_laws.proofs.laws.blocks_in_hand_are_bare.Goals as goal

pub returns : goal.returns
returns c = blocks_in_hand_are_bare
