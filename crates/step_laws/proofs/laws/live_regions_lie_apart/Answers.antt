use Rattle.step_laws.proofs.Runs.{live_regions_lie_apart}
use Rattle.step_laws.proofs.laws.live_regions_lie_apart.Goals as goal

pub returns : goal.returns
returns g c = live_regions_lie_apart g.R.Raw.out g.R.Raw.faults g.R.Raw.got g.R.Raw.passed
