use Rattle.step_locks.proofs.Runs.{others_leave_held_locks}
use Rattle.step_locks.proofs.laws.others_leave_held_locks.Goals as goal

pub returns : goal.returns
returns g c = others_leave_held_locks g.R.Raw.out g.R.Raw.faults g.R.Raw.got g.R.Raw.passed
