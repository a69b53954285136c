use Rattle.seat_hands.proofs.CallerLemmas.{hands_stay}
use Rattle.seat_hands.proofs.laws.hands_stay.Goals as goal

pub returns : goal.returns
returns c = hands_stay
