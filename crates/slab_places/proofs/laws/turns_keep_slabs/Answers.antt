use Rattle.slab_places.proofs.Lies.{turns_keep_slabs}
use Rattle.slab_places.proofs.laws.turns_keep_slabs.Goals as goal

pub returns : goal.returns
returns c = turns_keep_slabs
