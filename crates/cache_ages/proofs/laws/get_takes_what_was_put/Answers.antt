use Rattle.cache_ages.proofs.StepLemmas.{get_takes_what_was_put}
use Rattle.cache_ages.proofs.laws.get_takes_what_was_put.Goals as goal

pub returns : goal.returns
returns c = get_takes_what_was_put
