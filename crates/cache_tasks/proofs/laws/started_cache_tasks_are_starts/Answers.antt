use Rattle.cache_tasks.proofs.CacheTurns.{started_cache_tasks_are_starts}
use Rattle.cache_tasks.proofs.laws.started_cache_tasks_are_starts.Goals as goal

pub returns : goal.returns
returns c = started_cache_tasks_are_starts
