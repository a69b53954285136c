use Rattle.cache_laws.proofs.Keeps.{sweeps_release_the_oldest}
use Rattle.cache_laws.proofs.laws.sweeps_release_the_oldest.Goals as goal

pub returns : goal.returns
returns c = sweeps_release_the_oldest
