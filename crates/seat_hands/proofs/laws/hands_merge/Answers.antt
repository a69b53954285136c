use Rattle.seat_hands.proofs.CallerLemmas.{hands_merge}
use Rattle.seat_hands.proofs.laws.hands_merge.Goals as goal

pub returns : goal.returns
returns c = hands_merge
