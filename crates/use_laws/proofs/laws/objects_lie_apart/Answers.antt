use Rattle.use_laws.proofs.Apart.{objects_lie_apart}
use Rattle.use_laws.proofs.laws.objects_lie_apart.Goals as goal

pub returns : goal.returns
returns c = objects_lie_apart
