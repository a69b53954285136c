use Rattle.orphan_laws.proofs.Examples.{fresh_pools_have_no_orphans}
use Rattle.orphan_laws.proofs.laws.fresh_pools_have_no_orphans.Goals as goal

pub returns : goal.returns
returns c = fresh_pools_have_no_orphans
