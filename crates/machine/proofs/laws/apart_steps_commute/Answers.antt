use Rattle.machine.proofs.Steps.{apart_steps_commute}
use Rattle.machine.proofs.laws.apart_steps_commute.Goals as goal

pub returns : goal.returns
returns c = apart_steps_commute
