use Rattle.step_tasks.proofs.ObjectTurns.{rows_leave_object_tasks}
use Rattle.step_tasks.proofs.laws.rows_leave_object_tasks.Goals as goal

pub returns : goal.returns
returns c = rows_leave_object_tasks
