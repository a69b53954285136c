use Rattle.thread_laws.proofs.Pools.{tables_keep_regions}
use Rattle.thread_laws.proofs.laws.tables_keep_regions.Goals as goal

pub returns : goal.returns
returns g c = tables_keep_regions g.R.Raw.out g.R.Raw.faults g.R.Raw.got g.R.Raw.passed
