use Rattle.cache_tasks.proofs.Kept.{turns_keep_released}
use Rattle.cache_tasks.proofs.laws.turns_keep_released.Goals as goal

pub returns : goal.returns
returns c = turns_keep_released
