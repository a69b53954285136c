use Rattle.cache_laws.proofs.Clock.{times_are_apart}
use Rattle.cache_laws.proofs.laws.times_are_apart.Goals as goal

pub returns : goal.returns
returns c = times_are_apart
