use Rattle.seat_hands.proofs.CallerLemmas.{hands_come}
use Rattle.seat_hands.proofs.laws.hands_come.Goals as goal

pub returns : goal.returns
returns c = hands_come
