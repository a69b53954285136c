use Rattle.chain_laws.proofs.Seats.{seats_push_in_front}
use Rattle.chain_laws.proofs.laws.seats_push_in_front.Goals as goal

pub returns : goal.returns
returns c = seats_push_in_front
