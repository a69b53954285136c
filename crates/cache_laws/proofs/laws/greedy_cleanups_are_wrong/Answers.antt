use Rattle.cache_laws.proofs.Examples.{greedy_cleanups_are_wrong}
use Rattle.cache_laws.proofs.laws.greedy_cleanups_are_wrong.Goals as goal

pub returns : goal.returns
returns c = greedy_cleanups_are_wrong
