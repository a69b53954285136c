-- What laws above cite.
pub use Rattle.cache_moves.proofs.Moved.{turns_are_whole_steps, turns_leave_other_tasks, starts_are_whole_steps}
pub use Rattle.cache_moves.proofs.Moved.{ticks_are_whole_steps}
