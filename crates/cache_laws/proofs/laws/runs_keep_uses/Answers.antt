use Rattle.cache_laws.proofs.Uses.{runs_keep_uses}
use Rattle.cache_laws.proofs.laws.runs_keep_uses.Goals as goal

pub returns : goal.returns
returns c = runs_keep_uses
