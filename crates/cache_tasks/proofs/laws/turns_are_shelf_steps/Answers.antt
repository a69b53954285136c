use Rattle.cache_tasks.proofs.ShelfTurns.{turns_are_shelf_steps}
use Rattle.cache_tasks.proofs.laws.turns_are_shelf_steps.Goals as goal

pub returns : goal.returns
returns c = turns_are_shelf_steps
