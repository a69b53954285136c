use Rattle.backend_tasks.proofs.BinRows.{rows_leave_bin_tasks}
use Rattle.backend_tasks.proofs.laws.rows_leave_bin_tasks.Goals as goal

pub returns : goal.returns
returns c = rows_leave_bin_tasks
