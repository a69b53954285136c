use Rattle.machine.proofs.Steps.{grants_are_fresh}
use Rattle.machine.proofs.laws.grants_are_fresh.Goals as goal

pub returns : goal.returns
returns c = grants_are_fresh
