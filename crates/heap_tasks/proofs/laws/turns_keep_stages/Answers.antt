use Rattle.heap_tasks.proofs.NoteTurns.{turns_keep_stages}
use Rattle.heap_tasks.proofs.laws.turns_keep_stages.Goals as goal

pub returns : goal.returns
returns c = turns_keep_stages
