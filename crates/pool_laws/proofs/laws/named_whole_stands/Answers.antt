use Rattle.pool_laws.proofs.Examples.{named_whole_stands}
use Rattle.pool_laws.proofs.laws.named_whole_stands.Goals as goal

pub returns : goal.returns
returns c = named_whole_stands c.fresh_wholes_are_good.ensures c.named_region_stands.ensures
