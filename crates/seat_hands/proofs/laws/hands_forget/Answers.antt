use Rattle.seat_hands.proofs.CallerLemmas.{hands_forget}
use Rattle.seat_hands.proofs.laws.hands_forget.Goals as goal

pub returns : goal.returns
returns c = hands_forget
