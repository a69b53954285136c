use Rattle.backend_tasks.proofs.FitTurns.{fresh_locals_fit}
use Rattle.backend_tasks.proofs.laws.fresh_locals_fit.Goals as goal

pub returns : goal.returns
returns c = fresh_locals_fit
