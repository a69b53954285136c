use Rattle.slab_laws.proofs.Keeps.{steps_keep_slabs}
use Rattle.slab_laws.proofs.laws.steps_keep_slabs.Goals as goal

pub returns : goal.returns
returns c = steps_keep_slabs
