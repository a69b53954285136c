use Rattle.cache_tasks.proofs.Begun.{begins_start_cache_tasks}
use Rattle.cache_tasks.proofs.laws.begins_start_cache_tasks.Goals as goal

pub returns : goal.returns
returns c = begins_start_cache_tasks
