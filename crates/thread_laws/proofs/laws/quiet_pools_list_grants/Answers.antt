use Rattle.thread_laws.proofs.Quiets.{quiet_pools_list_grants}
use Rattle.thread_laws.proofs.laws.quiet_pools_list_grants.Goals as goal

pub returns : goal.returns
returns g c = quiet_pools_list_grants g.R.Raw.out g.R.Raw.faults g.R.Raw.got g.R.Raw.passed
