use Rattle.seat_ties.proofs.Left.{seats_left_are_here}
use Rattle.seat_ties.proofs.laws.seats_left_are_here.Goals as goal

pub returns : goal.returns
returns c = seats_left_are_here
