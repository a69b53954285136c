use Rattle.cache_laws.proofs.Keeps.{gets_take_the_newest}
use Rattle.cache_laws.proofs.laws.gets_take_the_newest.Goals as goal

pub returns : goal.returns
returns c = gets_take_the_newest
