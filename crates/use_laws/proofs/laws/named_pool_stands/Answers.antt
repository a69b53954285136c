use Rattle.use_laws.proofs.Examples.{named_pool_stands}
use Rattle.use_laws.proofs.laws.named_pool_stands.Goals as goal

pub returns : goal.returns
returns c = named_pool_stands c.fresh_pools_are_good.ensures
