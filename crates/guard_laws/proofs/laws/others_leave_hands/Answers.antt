use Rattle.guard_laws.proofs.Hands.{others_leave_hands}
use Rattle.guard_laws.proofs.laws.others_leave_hands.Goals as goal

pub returns : goal.returns
returns c = others_leave_hands
