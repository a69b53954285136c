use Rattle.step_tasks.proofs.MailTurns.{rows_leave_mail_tasks}
use Rattle.step_tasks.proofs.laws.rows_leave_mail_tasks.Goals as goal

pub returns : goal.returns
returns c = rows_leave_mail_tasks
