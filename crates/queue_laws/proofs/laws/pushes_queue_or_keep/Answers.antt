use Rattle.queue_laws.proofs.Keeps.{pushes_queue_or_keep}
use Rattle.queue_laws.proofs.laws.pushes_queue_or_keep.Goals as goal

pub returns : goal.returns
returns c = pushes_queue_or_keep
