use Rattle.queue_laws.proofs.Rests.{steps_keep_rest}
use Rattle.queue_laws.proofs.laws.steps_keep_rest.Goals as goal

pub returns : goal.returns
returns c = steps_keep_rest
