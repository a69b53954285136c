-- What laws above cite.
pub use Rattle.step_tasks.proofs.Begun.{begins_start_object_tasks, begins_start_mail_tasks}
pub use Rattle.step_tasks.proofs.ObjectTurns.{turns_move_object_tasks, started_tasks_are_starts}
pub use Rattle.step_tasks.proofs.ObjectTurns.{rows_leave_object_tasks}
pub use Rattle.step_tasks.proofs.MailTurns.{turns_move_mail_tasks, rows_leave_mail_tasks}
