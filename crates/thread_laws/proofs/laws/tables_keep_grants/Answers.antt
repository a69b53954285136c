use Rattle.thread_laws.proofs.Grants.{tables_keep_grants}
use Rattle.thread_laws.proofs.laws.tables_keep_grants.Goals as goal

pub returns : goal.returns
returns g c = tables_keep_grants g.R.Raw.out g.R.Raw.faults g.R.Raw.got g.R.Raw.passed
