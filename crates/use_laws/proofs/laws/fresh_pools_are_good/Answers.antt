use Rattle.use_laws.proofs.Examples.{fresh_pools_are_good}
use Rattle.use_laws.proofs.laws.fresh_pools_are_good.Goals as goal

pub returns : goal.returns
returns c =
    fresh_pools_are_good c.fresh_pools_have_no_blocks.ensures c.fresh_pools_have_no_slabs.ensures
    c.fresh_pools_have_no_objects.ensures
