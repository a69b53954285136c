use Rattle.step_locks.proofs.UnderLocks.{steps_write_under_locks}
use Rattle.step_locks.proofs.laws.steps_write_under_locks.Goals as goal

pub returns : goal.returns
returns c = steps_write_under_locks
