use Rattle.hand_blocks.proofs.Turns.{turns_keep_hand_fits}
use Rattle.hand_blocks.proofs.laws.turns_keep_hand_fits.Goals as goal

pub returns : goal.returns
returns c = turns_keep_hand_fits
