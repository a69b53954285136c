use Rattle.seat_hands.proofs.CallerLemmas.{hands_leave}
use Rattle.seat_hands.proofs.laws.hands_leave.Goals as goal

pub returns : goal.returns
returns c = hands_leave
