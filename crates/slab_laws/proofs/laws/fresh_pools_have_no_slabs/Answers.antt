use Rattle.slab_laws.proofs.Examples.{fresh_pools_have_no_slabs}
use Rattle.slab_laws.proofs.laws.fresh_pools_have_no_slabs.Goals as goal

pub returns : goal.returns
returns c = fresh_pools_have_no_slabs
