use Rattle.seat_ties.proofs.Nothing.{nothing_is_said_elsewhere}
use Rattle.seat_ties.proofs.laws.nothing_is_said_elsewhere.Goals as goal

pub returns : goal.returns
returns c = nothing_is_said_elsewhere
