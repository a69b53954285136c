use Rattle.seat_hands.proofs.CallerLemmas.{hands_are_read}
use Rattle.seat_hands.proofs.laws.hands_are_read.Goals as goal

pub returns : goal.returns
returns c = hands_are_read
