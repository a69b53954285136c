-- What laws above cite.
pub use Rattle.backend_tasks.proofs.Begun.{begins_keep_backend_fits, begins_start_backend_tasks}
pub use Rattle.backend_tasks.proofs.BinRows.{rows_leave_bin_tasks}
pub use Rattle.backend_tasks.proofs.FitTurns.{fresh_locals_fit, tasks_are_of_one_position, turns_keep_backend_fits}
pub use Rattle.backend_tasks.proofs.GuardRows.{rows_leave_guard_tasks}
pub use Rattle.backend_tasks.proofs.QueueRows.{rows_leave_queue_tasks}
pub use Rattle.backend_tasks.proofs.Rests.{StaysOrQueues, StaysOrWins, drained_or_ends, guard_stays_or_wins}
pub use Rattle.backend_tasks.proofs.Rests.{queue_stays_or_queues, spares_is_other}
pub use Rattle.backend_tasks.proofs.Turns.{turns_move_bin_tasks, turns_move_guard_tasks, turns_move_queue_tasks}
pub use Rattle.backend_tasks.proofs.Bare.{Bare, BareAt, AskBare, CutBare, DrainBare, OfficeBare, PutBare, no_guard_task}
pub use Rattle.backend_tasks.proofs.Others.{is_other, other_turn}
pub use Rattle.backend_tasks.proofs.BareBackend.{bare-asked, bare-cutting, bare-in_vain, bare-obtained_as, bare-put_done}
