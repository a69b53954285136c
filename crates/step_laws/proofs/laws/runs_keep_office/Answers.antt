use Rattle.step_laws.proofs.Runs.{runs_keep_office}
use Rattle.step_laws.proofs.laws.runs_keep_office.Goals as goal

pub returns : goal.returns
returns g c = runs_keep_office g.R.Raw.out g.R.Raw.faults g.R.Raw.got g.R.Raw.passed
