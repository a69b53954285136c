use Rattle.cache_laws.proofs.Keeps.{steps_keep_cache}
use Rattle.cache_laws.proofs.laws.steps_keep_cache.Goals as goal

pub returns : goal.returns
returns c = steps_keep_cache
