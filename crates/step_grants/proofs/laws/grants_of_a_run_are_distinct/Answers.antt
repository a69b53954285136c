use Rattle.step_grants.proofs.Runs.{grants_of_a_run_are_distinct}
use Rattle.step_grants.proofs.laws.grants_of_a_run_are_distinct.Goals as goal

pub returns : goal.returns
returns g c = grants_of_a_run_are_distinct g.R.Raw.out g.R.Raw.faults g.R.Raw.got g.R.Raw.passed
