use Rattle.guard_laws.proofs.Tells.{fresh_pools_have_no_blocks}
use Rattle.guard_laws.proofs.laws.fresh_pools_have_no_blocks.Goals as goal

pub returns : goal.returns
returns c = fresh_pools_have_no_blocks
