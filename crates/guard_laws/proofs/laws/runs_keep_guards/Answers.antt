use Rattle.guard_laws.proofs.Keeps.{runs_keep_guards}
use Rattle.guard_laws.proofs.laws.runs_keep_guards.Goals as goal

pub returns : goal.returns
returns c = runs_keep_guards
