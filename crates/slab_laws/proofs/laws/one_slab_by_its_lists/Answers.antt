use Rattle.slab_laws.proofs.OneSlab.{one_slab_by_its_lists}
use Rattle.slab_laws.proofs.laws.one_slab_by_its_lists.Goals as goal

pub returns : goal.returns
returns c = one_slab_by_its_lists
