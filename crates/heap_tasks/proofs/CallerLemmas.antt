-- What laws above cite.
pub use Rattle.heap_tasks.proofs.HeapTurns.{turns_change_heaps}
pub use Rattle.heap_tasks.proofs.HeapBegun.{begins_leave_heaps}
pub use Rattle.heap_tasks.proofs.NoteTurns.{turns_keep_stages, turns_move_notes}
pub use Rattle.heap_tasks.proofs.NoteBegun.{begins_keep_stages, begins_note_nothing, fresh_stages_fit}
pub use Rattle.heap_tasks.proofs.NoteRows.{along_tail, ended_notes_fit, ends_are_of_notes, grants_are_noted}
pub use Rattle.heap_tasks.proofs.NoteRows.{grants_are_numbered, rows_leave_notes, tails_are_forgotten}
