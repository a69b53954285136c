use Rattle.begun_laws.proofs.Steps.{steps_keep_begun}
use Rattle.begun_laws.proofs.laws.steps_keep_begun.Goals as goal

pub returns : goal.returns
returns c = steps_keep_begun
