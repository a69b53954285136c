use Rattle.slab_laws.proofs.Examples.{objects_begin_in_their_slab}
use Rattle.slab_laws.proofs.laws.objects_begin_in_their_slab.Goals as goal

pub returns : goal.returns
returns c = objects_begin_in_their_slab
