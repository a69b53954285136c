use Rattle.cache_tasks.proofs.ShelfTurns.{starts_are_shelf_steps}
use Rattle.cache_tasks.proofs.laws.starts_are_shelf_steps.Goals as goal

pub returns : goal.returns
returns c = starts_are_shelf_steps
