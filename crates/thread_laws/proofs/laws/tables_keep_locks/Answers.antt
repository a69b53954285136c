use Rattle.thread_laws.proofs.Locks.{tables_keep_locks}
use Rattle.thread_laws.proofs.laws.tables_keep_locks.Goals as goal

pub returns : goal.returns
returns g c = tables_keep_locks g.R.Raw.out g.R.Raw.faults g.R.Raw.got g.R.Raw.passed
