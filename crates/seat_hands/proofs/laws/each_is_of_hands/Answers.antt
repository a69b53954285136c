use Rattle.seat_hands.proofs.CallerLemmas.{each_is_of_hands}
use Rattle.seat_hands.proofs.laws.each_is_of_hands.Goals as goal

pub returns : goal.returns
returns c = each_is_of_hands
