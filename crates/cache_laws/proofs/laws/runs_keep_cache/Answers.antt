use Rattle.cache_laws.proofs.Keeps.{runs_keep_cache}
use Rattle.cache_laws.proofs.laws.runs_keep_cache.Goals as goal

pub returns : goal.returns
returns c = runs_keep_cache
