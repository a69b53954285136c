use Rattle.slab_laws.proofs.Keeps.{runs_keep_slabs}
use Rattle.slab_laws.proofs.laws.runs_keep_slabs.Goals as goal

pub returns : goal.returns
returns c = runs_keep_slabs
