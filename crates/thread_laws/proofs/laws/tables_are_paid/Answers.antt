use Rattle.thread_laws.proofs.Pools.{tables_are_paid}
use Rattle.thread_laws.proofs.laws.tables_are_paid.Goals as goal

pub returns : goal.returns
returns g c = tables_are_paid g.R.Raw.out g.R.Raw.faults g.R.Raw.got g.R.Raw.passed
