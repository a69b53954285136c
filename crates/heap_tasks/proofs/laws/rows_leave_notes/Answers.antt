use Rattle.heap_tasks.proofs.NoteRows.{rows_leave_notes}
use Rattle.heap_tasks.proofs.laws.rows_leave_notes.Goals as goal

pub returns : goal.returns
returns c = rows_leave_notes
