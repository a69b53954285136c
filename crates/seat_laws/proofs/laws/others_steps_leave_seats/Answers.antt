use Rattle.seat_laws.proofs.CallerLemmas.{others_steps_leave_seats}
use Rattle.seat_laws.proofs.laws.others_steps_leave_seats.Goals as goal

pub returns : goal.returns
returns c = others_steps_leave_seats
