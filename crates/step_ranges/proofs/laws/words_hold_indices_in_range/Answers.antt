use Rattle.step_ranges.proofs.Runs.{words_hold_indices_in_range}
use Rattle.step_ranges.proofs.laws.words_hold_indices_in_range.Goals as goal

pub returns : goal.returns
returns g c = words_hold_indices_in_range g.R.Raw.out g.R.Raw.faults g.R.Raw.got g.R.Raw.passed
