use Rattle.step_locks.proofs.OnLocks.{steps_take_and_free_locks}
use Rattle.step_locks.proofs.laws.steps_take_and_free_locks.Goals as goal

pub returns : goal.returns
returns c = steps_take_and_free_locks
