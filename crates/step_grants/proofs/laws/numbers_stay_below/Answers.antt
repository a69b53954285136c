use Rattle.step_grants.proofs.Runs.{numbers_stay_below}
use Rattle.step_grants.proofs.laws.numbers_stay_below.Goals as goal

pub returns : goal.returns
returns g c = numbers_stay_below g.R.Raw.out g.R.Raw.faults g.R.Raw.got g.R.Raw.passed
