use Rattle.queue_laws.proofs.Rests.{runs_keep_rest}
use Rattle.queue_laws.proofs.laws.runs_keep_rest.Goals as goal

pub returns : goal.returns
returns c = runs_keep_rest
