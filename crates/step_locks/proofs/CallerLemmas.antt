-- What laws above cite.
pub use Rattle.step_locks.proofs.Onward.{turns_change_locks, begins_keep_locks}
pub use Rattle.step_locks.proofs.OnLocks.{steps_take_and_free_locks}
pub use Rattle.step_locks.proofs.Runs.{silence_holds, run_named, others_leave}
pub use Rattle.step_locks.proofs.UnderLocks.{steps_write_under_locks}
pub use Rattle.step_locks.proofs.LockedWords.{others_leave_words}
