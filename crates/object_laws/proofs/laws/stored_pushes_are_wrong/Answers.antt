use Rattle.object_laws.proofs.Named.{stored_pushes_are_wrong}
use Rattle.object_laws.proofs.laws.stored_pushes_are_wrong.Goals as goal

pub returns : goal.returns
returns c = stored_pushes_are_wrong
