use Rattle.queue_laws.proofs.Keeps.{runs_keep_queue}
use Rattle.queue_laws.proofs.laws.runs_keep_queue.Goals as goal

pub returns : goal.returns
returns c = runs_keep_queue
