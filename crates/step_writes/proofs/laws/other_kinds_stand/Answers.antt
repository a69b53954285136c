use Rattle.step_writes.proofs.Actions.{other_kinds_stand}
use Rattle.step_writes.proofs.laws.other_kinds_stand.Goals as goal

pub returns : goal.returns
returns c = other_kinds_stand
