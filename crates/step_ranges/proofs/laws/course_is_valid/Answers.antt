use Rattle.step_ranges.proofs.Runs.{course_is_valid}
use Rattle.step_ranges.proofs.laws.course_is_valid.Goals as goal

pub returns : goal.returns
returns g c = course_is_valid g.R.Raw.out g.R.Raw.faults g.R.Raw.got g.R.Raw.passed
