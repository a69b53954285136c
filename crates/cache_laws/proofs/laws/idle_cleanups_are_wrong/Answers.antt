use Rattle.cache_laws.proofs.Examples.{idle_cleanups_are_wrong}
use Rattle.cache_laws.proofs.laws.idle_cleanups_are_wrong.Goals as goal

pub returns : goal.returns
returns c = idle_cleanups_are_wrong
