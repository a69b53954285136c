use Rattle.orphan_tasks.proofs.Rows.{rows_leave_orphan_tasks}
use Rattle.orphan_tasks.proofs.laws.rows_leave_orphan_tasks.Goals as goal

pub returns : goal.returns
returns c = rows_leave_orphan_tasks
