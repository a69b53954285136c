use Rattle.step_grants.proofs.Runs.{grants_never_return}
use Rattle.step_grants.proofs.laws.grants_never_return.Goals as goal

pub returns : goal.returns
returns g c = grants_never_return g.R.Raw.out g.R.Raw.faults g.R.Raw.got g.R.Raw.passed
