use Rattle.cache_laws.proofs.Keeps.{puts_release_the_oldest}
use Rattle.cache_laws.proofs.laws.puts_release_the_oldest.Goals as goal

pub returns : goal.returns
returns c = puts_release_the_oldest
