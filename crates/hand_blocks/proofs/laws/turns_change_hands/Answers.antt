use Rattle.hand_blocks.proofs.Turns.{turns_change_hands}
use Rattle.hand_blocks.proofs.laws.turns_change_hands.Goals as goal

pub returns : goal.returns
returns c = turns_change_hands
