use Rattle.object_laws.proofs.Keeps.{steps_keep_objects}
use Rattle.object_laws.proofs.laws.steps_keep_objects.Goals as goal

pub returns : goal.returns
returns c = steps_keep_objects
