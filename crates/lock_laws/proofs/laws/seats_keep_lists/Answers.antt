use Rattle.lock_laws.proofs.Seats.{seats_keep_lists}
use Rattle.lock_laws.proofs.laws.seats_keep_lists.Goals as goal

pub returns : goal.returns
returns c = seats_keep_lists
