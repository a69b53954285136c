use Rattle.hand_blocks.proofs.Begun.{idle_hands_are_empty}
use Rattle.hand_blocks.proofs.laws.idle_hands_are_empty.Goals as goal

pub returns : goal.returns
returns c = idle_hands_are_empty
