use Rattle.step_locks.proofs.Runs.{locks_are_held_once}
use Rattle.step_locks.proofs.laws.locks_are_held_once.Goals as goal

pub returns : goal.returns
returns g c = locks_are_held_once g.R.Raw.out g.R.Raw.faults g.R.Raw.got g.R.Raw.passed
