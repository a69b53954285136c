use Rattle.path_laws.proofs.Runs.{runs_pay}
use Rattle.path_laws.proofs.laws.runs_pay.Goals as goal

pub returns : goal.returns
returns g c = runs_pay g.R.Raw.out g.R.Raw.faults g.R.Raw.got g.R.Raw.passed
