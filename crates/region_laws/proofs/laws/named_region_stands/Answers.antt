use Rattle.region_laws.proofs.Examples.{named_region_stands}
use Rattle.region_laws.proofs.laws.named_region_stands.Goals as goal

pub returns : goal.returns
returns c = named_region_stands c.fresh_pools_are_good.ensures
