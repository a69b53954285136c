use Rattle.step_laws.proofs.Runs.{runs_go_on}
use Rattle.step_laws.proofs.laws.runs_go_on.Goals as goal

pub returns : goal.returns
returns g c = runs_go_on g.R.Raw.out g.R.Raw.faults g.R.Raw.got g.R.Raw.passed
