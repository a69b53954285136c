use Rattle.cache_laws.proofs.Examples.{lockless_stores_are_wrong}
use Rattle.cache_laws.proofs.laws.lockless_stores_are_wrong.Goals as goal

pub returns : goal.returns
returns c = lockless_stores_are_wrong
