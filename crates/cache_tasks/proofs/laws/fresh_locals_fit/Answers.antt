use Rattle.cache_tasks.proofs.Kept.{fresh_locals_fit}
use Rattle.cache_tasks.proofs.laws.fresh_locals_fit.Goals as goal

pub returns : goal.returns
returns c = fresh_locals_fit
