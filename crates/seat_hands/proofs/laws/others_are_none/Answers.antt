use Rattle.seat_hands.proofs.CallerLemmas.{others_are_none}
use Rattle.seat_hands.proofs.laws.others_are_none.Goals as goal

pub returns : goal.returns
returns c = others_are_none
