use Rattle.object_laws.proofs.Keeps.{runs_keep_objects}
use Rattle.object_laws.proofs.laws.runs_keep_objects.Goals as goal

pub returns : goal.returns
returns c = runs_keep_objects
