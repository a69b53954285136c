use Rattle.machine.proofs.Steps.{steps_keep_one_holder}
use Rattle.machine.proofs.laws.steps_keep_one_holder.Goals as goal

pub returns : goal.returns
returns c = steps_keep_one_holder
