use Rattle.orphan_laws.proofs.Examples.{slab_has_one_keeper}
use Rattle.orphan_laws.proofs.laws.slab_has_one_keeper.Goals as goal

pub returns : goal.returns
returns c = slab_has_one_keeper
