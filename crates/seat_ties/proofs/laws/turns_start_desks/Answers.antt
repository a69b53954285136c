use Rattle.seat_ties.proofs.Here.{turns_start_desks}
use Rattle.seat_ties.proofs.laws.turns_start_desks.Goals as goal

pub returns : goal.returns
returns c = turns_start_desks
