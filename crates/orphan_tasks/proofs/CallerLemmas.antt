-- What laws above cite.
pub use Rattle.orphan_tasks.proofs.Turns.{turns_move_orphan_tasks}
pub use Rattle.orphan_tasks.proofs.Begun.{begins_start_orphan_tasks, made_locals_fit_orphans}
pub use Rattle.orphan_tasks.proofs.Moves.{started_orphans_are_starts, starts_fits}
pub use Rattle.orphan_tasks.proofs.Rows.{rows_leave_orphan_tasks}
pub use Rattle.orphan_tasks.proofs.Heaps.{turns_move_orphan_heaps}
pub use Rattle.orphan_tasks.proofs.Ties.{tasks_tie, stripped_orphans_tie_otherwise}
pub use Rattle.orphan_tasks.proofs.Steps.{orphan_steps_are_the_rows}
