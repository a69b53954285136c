use Rattle.size_classes.proofs.Places.{objects_lie_in_slab}
use Rattle.size_classes.proofs.laws.objects_lie_in_slab.Goals as goal

pub returns : goal.returns
returns c = objects_lie_in_slab
