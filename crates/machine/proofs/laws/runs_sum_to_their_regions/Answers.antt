use Rattle.machine.proofs.RegionBytes.{runs_sum_to_their_regions}
use Rattle.machine.proofs.laws.runs_sum_to_their_regions.Goals as goal

pub returns : goal.returns
returns c = runs_sum_to_their_regions
