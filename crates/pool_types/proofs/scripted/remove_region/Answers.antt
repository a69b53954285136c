-- The list loses the region at the index that was found.
use Rattle.pool_types.proofs.Lists.{loses_at}
use Rattle.pool_types.proofs.scripted.remove_region.Goals as goal

pub returns : goal.returns
returns c = rw c.remove.ensures.items (loses_at c.args.out.now.items c.args.region c.index_of-index.result (rw c.as_slice.ensures.value at c.index_of-index.ensures.below) (rw c.as_slice.ensures.value at c.index_of-index.ensures.there))
