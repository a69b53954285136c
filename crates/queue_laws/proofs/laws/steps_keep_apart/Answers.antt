use Rattle.queue_laws.proofs.Apart.{steps_keep_apart}
use Rattle.queue_laws.proofs.laws.steps_keep_apart.Goals as goal

pub returns : goal.returns
returns c = steps_keep_apart
