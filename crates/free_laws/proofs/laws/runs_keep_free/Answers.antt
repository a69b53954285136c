use Rattle.free_laws.proofs.Keeps.{runs_keep_free}
use Rattle.free_laws.proofs.laws.runs_keep_free.Goals as goal

pub returns : goal.returns
returns c = runs_keep_free
