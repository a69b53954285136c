use Rattle.seat_hands.proofs.CallerLemmas.{hands_lie}
use Rattle.seat_hands.proofs.laws.hands_lie.Goals as goal

pub returns : goal.returns
returns c = hands_lie
