use Rattle.cache_laws.proofs.Uses.{steps_keep_uses}
use Rattle.cache_laws.proofs.laws.steps_keep_uses.Goals as goal

pub returns : goal.returns
returns c = steps_keep_uses
