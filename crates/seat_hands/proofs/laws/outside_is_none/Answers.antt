use Rattle.seat_hands.proofs.CallerLemmas.{outside_is_none}
use Rattle.seat_hands.proofs.laws.outside_is_none.Goals as goal

pub returns : goal.returns
returns c = outside_is_none
