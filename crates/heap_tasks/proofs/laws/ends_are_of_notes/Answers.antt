use Rattle.heap_tasks.proofs.NoteRows.{ends_are_of_notes}
use Rattle.heap_tasks.proofs.laws.ends_are_of_notes.Goals as goal

pub returns : goal.returns
returns c = ends_are_of_notes
