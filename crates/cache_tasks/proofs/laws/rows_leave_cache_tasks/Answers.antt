use Rattle.cache_tasks.proofs.CacheTurns.{rows_leave_cache_tasks}
use Rattle.cache_tasks.proofs.laws.rows_leave_cache_tasks.Goals as goal

pub returns : goal.returns
returns c = rows_leave_cache_tasks
