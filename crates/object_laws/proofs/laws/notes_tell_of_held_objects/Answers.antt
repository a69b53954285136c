use Rattle.object_laws.proofs.Heads.{notes_tell_of_held_objects}
use Rattle.object_laws.proofs.laws.notes_tell_of_held_objects.Goals as goal

pub returns : goal.returns
returns c = notes_tell_of_held_objects
