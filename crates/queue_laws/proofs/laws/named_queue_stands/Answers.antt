use Rattle.queue_laws.proofs.Examples.{named_queue_stands}
use Rattle.queue_laws.proofs.laws.named_queue_stands.Goals as goal

pub returns : goal.returns
returns c = named_queue_stands
