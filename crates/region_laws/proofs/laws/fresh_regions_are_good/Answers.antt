use Rattle.region_laws.proofs.Examples.{fresh_regions_are_good}
use Rattle.region_laws.proofs.laws.fresh_regions_are_good.Goals as goal

pub returns : goal.returns
returns c = fresh_regions_are_good c.fresh_pools_are_good.ensures c.fresh_offices_have_no_regions.ensures
