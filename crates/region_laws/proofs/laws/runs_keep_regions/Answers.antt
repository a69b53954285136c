use Rattle.region_laws.proofs.Keeps.{runs_keep_regions}
use Rattle.region_laws.proofs.laws.runs_keep_regions.Goals as goal

pub returns : goal.returns
returns c = runs_keep_regions
