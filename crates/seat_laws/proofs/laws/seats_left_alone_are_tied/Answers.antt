use Rattle.seat_laws.proofs.CallerLemmas.{seats_left_alone_are_tied}
use Rattle.seat_laws.proofs.laws.seats_left_alone_are_tied.Goals as goal

pub returns : goal.returns
returns c = seats_left_alone_are_tied
