use Rattle.queue_laws.proofs.Keeps.{swap_takes_the_queue}
use Rattle.queue_laws.proofs.laws.swap_takes_the_queue.Goals as goal

pub returns : goal.returns
returns c = swap_takes_the_queue
