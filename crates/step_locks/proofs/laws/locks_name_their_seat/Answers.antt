use Rattle.step_locks.proofs.Runs.{locks_name_their_seat}
use Rattle.step_locks.proofs.laws.locks_name_their_seat.Goals as goal

pub returns : goal.returns
returns g c = locks_name_their_seat g.R.Raw.out g.R.Raw.faults g.R.Raw.got g.R.Raw.passed
