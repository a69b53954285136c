use Rattle.size_classes.proofs.Places.{objects_are_apart}
use Rattle.size_classes.proofs.laws.objects_are_apart.Goals as goal

pub returns : goal.returns
returns c = objects_are_apart
