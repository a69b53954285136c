use Rattle.use_laws.proofs.Stays.{others_leave_blocks_in_hand}
use Rattle.use_laws.proofs.laws.others_leave_blocks_in_hand.Goals as goal

pub returns : goal.returns
returns c = others_leave_blocks_in_hand
