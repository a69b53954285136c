use Rattle.seat_ties.proofs.Left.{turns_keep_what_is_said}
use Rattle.seat_ties.proofs.laws.turns_keep_what_is_said.Goals as goal

pub returns : goal.returns
returns c = turns_keep_what_is_said
