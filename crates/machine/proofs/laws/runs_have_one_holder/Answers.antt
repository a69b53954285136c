use Rattle.machine.proofs.Runs.{runs_have_one_holder}
use Rattle.machine.proofs.laws.runs_have_one_holder.Goals as goal

pub returns : goal.returns
returns c = runs_have_one_holder
