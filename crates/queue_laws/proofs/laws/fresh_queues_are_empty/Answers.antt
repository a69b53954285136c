use Rattle.queue_laws.proofs.Examples.{fresh_queues_are_empty}
use Rattle.queue_laws.proofs.laws.fresh_queues_are_empty.Goals as goal

pub returns : goal.returns
returns c = fresh_queues_are_empty
