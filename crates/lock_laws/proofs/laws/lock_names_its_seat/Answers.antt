use Rattle.lock_laws.proofs.Locks.{lock_names_its_seat}
use Rattle.lock_laws.proofs.laws.lock_names_its_seat.Goals as goal

pub returns : goal.returns
returns c = lock_names_its_seat
