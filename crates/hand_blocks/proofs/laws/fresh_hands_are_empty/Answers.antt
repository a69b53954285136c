use Rattle.hand_blocks.proofs.Begun.{fresh_hands_are_empty}
use Rattle.hand_blocks.proofs.laws.fresh_hands_are_empty.Goals as goal

pub returns : goal.returns
returns c = fresh_hands_are_empty
