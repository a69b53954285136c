use Rattle.backend_tasks.proofs.GuardRows.{rows_leave_guard_tasks}
use Rattle.backend_tasks.proofs.laws.rows_leave_guard_tasks.Goals as goal

pub returns : goal.returns
returns c = rows_leave_guard_tasks
