use Rattle.slab_places.proofs.Lies.{silence_keeps_slabs}
use Rattle.slab_places.proofs.laws.silence_keeps_slabs.Goals as goal

pub returns : goal.returns
returns c = silence_keeps_slabs
