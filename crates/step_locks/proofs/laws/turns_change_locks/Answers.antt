use Rattle.step_locks.proofs.Onward.{turns_change_locks}
use Rattle.step_locks.proofs.laws.turns_change_locks.Goals as goal

pub returns : goal.returns
returns c = turns_change_locks
