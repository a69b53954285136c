use Rattle.step_locks.proofs.Onward.{begins_keep_locks}
use Rattle.step_locks.proofs.laws.begins_keep_locks.Goals as goal

pub returns : goal.returns
returns c = begins_keep_locks
