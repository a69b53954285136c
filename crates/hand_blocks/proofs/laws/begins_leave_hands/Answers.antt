use Rattle.hand_blocks.proofs.Begun.{begins_leave_hands}
use Rattle.hand_blocks.proofs.laws.begins_leave_hands.Goals as goal

pub returns : goal.returns
returns c = begins_leave_hands
