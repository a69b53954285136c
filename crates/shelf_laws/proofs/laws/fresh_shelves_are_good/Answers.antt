use Rattle.shelf_laws.proofs.Examples.{fresh_shelves_are_good}
use Rattle.shelf_laws.proofs.laws.fresh_shelves_are_good.Goals as goal

pub returns : goal.returns
returns c = fresh_shelves_are_good c.fresh_pools_are_good.ensures c.fresh_bins_are_empty.ensures
