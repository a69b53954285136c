use Rattle.cache_tasks.proofs.CacheTurns.{calls_are_those_of_tasks}
use Rattle.cache_tasks.proofs.laws.calls_are_those_of_tasks.Goals as goal

pub returns : goal.returns
returns c = calls_are_those_of_tasks
