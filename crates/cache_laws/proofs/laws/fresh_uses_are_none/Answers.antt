use Rattle.cache_laws.proofs.Examples.{fresh_uses_are_none}
use Rattle.cache_laws.proofs.laws.fresh_uses_are_none.Goals as goal

pub returns : goal.returns
returns c = fresh_uses_are_none
