use Rattle.queue_laws.proofs.NeverQueue.{alone_puts_never_queue}
use Rattle.queue_laws.proofs.laws.alone_puts_never_queue.Goals as goal

pub returns : goal.returns
returns c = alone_puts_never_queue
