use Rattle.cache_moves.proofs.Moved.{turns_leave_other_tasks}
use Rattle.cache_moves.proofs.laws.turns_leave_other_tasks.Goals as goal

pub returns : goal.returns
returns c = turns_leave_other_tasks
