use Rattle.free_laws.proofs.Keeps.{steps_keep_free}
use Rattle.free_laws.proofs.laws.steps_keep_free.Goals as goal

pub returns : goal.returns
returns c = steps_keep_free
