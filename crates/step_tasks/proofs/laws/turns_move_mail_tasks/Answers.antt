use Rattle.step_tasks.proofs.MailTurns.{turns_move_mail_tasks}
use Rattle.step_tasks.proofs.laws.turns_move_mail_tasks.Goals as goal

pub returns : goal.returns
returns c = turns_move_mail_tasks
