use Rattle.lock_laws.proofs.Locks.{other_steps_leave_locks}
use Rattle.lock_laws.proofs.laws.other_steps_leave_locks.Goals as goal

pub returns : goal.returns
returns c = other_steps_leave_locks
