use Rattle.seat_hands.proofs.CallerLemmas.{hands_stand_elsewhere}
use Rattle.seat_hands.proofs.laws.hands_stand_elsewhere.Goals as goal

pub returns : goal.returns
returns c = hands_stand_elsewhere
