use Rattle.thread_laws.proofs.Pools.{tables_are_states}
use Rattle.thread_laws.proofs.laws.tables_are_states.Goals as goal

pub returns : goal.returns
returns g c = tables_are_states g.R.Raw.out g.R.Raw.faults g.R.Raw.got g.R.Raw.passed
