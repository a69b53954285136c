use Rattle.queue_laws.proofs.Keeps.{steps_keep_queue}
use Rattle.queue_laws.proofs.laws.steps_keep_queue.Goals as goal

pub returns : goal.returns
returns c = steps_keep_queue
