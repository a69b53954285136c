use Rattle.guard_laws.proofs.Keeps.{steps_keep_guards}
use Rattle.guard_laws.proofs.laws.steps_keep_guards.Goals as goal

pub returns : goal.returns
returns c = steps_keep_guards
