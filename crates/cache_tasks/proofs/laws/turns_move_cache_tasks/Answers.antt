use Rattle.cache_tasks.proofs.CacheTurns.{turns_move_cache_tasks}
use Rattle.cache_tasks.proofs.laws.turns_move_cache_tasks.Goals as goal

pub returns : goal.returns
returns c = turns_move_cache_tasks
