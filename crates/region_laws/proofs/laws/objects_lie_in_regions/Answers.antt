use Rattle.region_laws.proofs.Keeps.{objects_lie_in_regions}
use Rattle.region_laws.proofs.laws.objects_lie_in_regions.Goals as goal

pub returns : goal.returns
returns c = objects_lie_in_regions
