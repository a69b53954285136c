use Rattle.seat_hands.proofs.CallerLemmas.{hands_split}
use Rattle.seat_hands.proofs.laws.hands_split.Goals as goal

pub returns : goal.returns
returns c = hands_split
