use Rattle.heap_tasks.proofs.NoteRows.{ended_notes_fit}
use Rattle.heap_tasks.proofs.laws.ended_notes_fit.Goals as goal

pub returns : goal.returns
returns c = ended_notes_fit
