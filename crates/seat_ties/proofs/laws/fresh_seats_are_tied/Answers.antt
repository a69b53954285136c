use Rattle.seat_ties.proofs.Fresh.{fresh_seats_are_tied}
use Rattle.seat_ties.proofs.laws.fresh_seats_are_tied.Goals as goal

pub returns : goal.returns
returns c = fresh_seats_are_tied
