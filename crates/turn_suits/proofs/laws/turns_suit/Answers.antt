use Rattle.turn_suits.proofs.CallerLemmas.{turns_suit}
use Rattle.turn_suits.proofs.laws.turns_suit.Goals as goal

pub returns : goal.returns
returns c = turns_suit
