use Rattle.step_locks.proofs.LockedWords.{others_leave_locked_words}
use Rattle.step_locks.proofs.laws.others_leave_locked_words.Goals as goal

pub returns : goal.returns
returns g c = others_leave_locked_words g.R.Raw.out g.R.Raw.faults g.R.Raw.got g.R.Raw.passed
