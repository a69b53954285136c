use Rattle.seat_laws.proofs.CallerLemmas.{steps_leave_others}
use Rattle.seat_laws.proofs.laws.steps_leave_others.Goals as goal

pub returns : goal.returns
returns c = steps_leave_others
