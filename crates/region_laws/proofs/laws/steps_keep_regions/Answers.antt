use Rattle.region_laws.proofs.Keeps.{steps_keep_regions}
use Rattle.region_laws.proofs.laws.steps_keep_regions.Goals as goal

pub returns : goal.returns
returns c = steps_keep_regions
