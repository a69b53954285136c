use Rattle.free_laws.proofs.Examples.{fresh_spaces_are_good}
use Rattle.free_laws.proofs.laws.fresh_spaces_are_good.Goals as goal

pub returns : goal.returns
returns c =
    fresh_spaces_are_good c.fresh_pools_are_good.ensures c.fresh_bins_are_empty.ensures
    c.fresh_queues_are_empty.ensures
