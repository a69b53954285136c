use Rattle.region_laws.proofs.Keeps.{blocks_lie_in_one_region}
use Rattle.region_laws.proofs.laws.blocks_lie_in_one_region.Goals as goal

pub returns : goal.returns
returns c = blocks_lie_in_one_region
