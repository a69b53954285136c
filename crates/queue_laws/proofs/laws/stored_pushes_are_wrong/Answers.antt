use Rattle.queue_laws.proofs.Examples.{stored_pushes_are_wrong}
use Rattle.queue_laws.proofs.laws.stored_pushes_are_wrong.Goals as goal

pub returns : goal.returns
returns c = stored_pushes_are_wrong
