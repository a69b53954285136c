use Rattle.slab_places.proofs.Lies.{begins_keep_slabs}
use Rattle.slab_places.proofs.laws.begins_keep_slabs.Goals as goal

pub returns : goal.returns
returns c = begins_keep_slabs
