use Rattle.step_grants.proofs.Runs.{grants_are_at_one_place}
use Rattle.step_grants.proofs.laws.grants_are_at_one_place.Goals as goal

pub returns : goal.returns
returns g c = grants_are_at_one_place g.R.Raw.out g.R.Raw.faults g.R.Raw.got g.R.Raw.passed
