use Rattle.heap_tasks.proofs.NoteBegun.{begins_note_nothing}
use Rattle.heap_tasks.proofs.laws.begins_note_nothing.Goals as goal

pub returns : goal.returns
returns c = begins_note_nothing
