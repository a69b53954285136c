use Rattle.object_laws.proofs.Named.{named_objects_stand}
use Rattle.object_laws.proofs.laws.named_objects_stand.Goals as goal

pub returns : goal.returns
returns c = named_objects_stand
