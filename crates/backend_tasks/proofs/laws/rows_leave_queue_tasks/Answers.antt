use Rattle.backend_tasks.proofs.QueueRows.{rows_leave_queue_tasks}
use Rattle.backend_tasks.proofs.laws.rows_leave_queue_tasks.Goals as goal

pub returns : goal.returns
returns c = rows_leave_queue_tasks
