use Rattle.mail_laws.proofs.Keeps.{steps_keep_mail}
use Rattle.mail_laws.proofs.laws.steps_keep_mail.Goals as goal

pub returns : goal.returns
returns c = steps_keep_mail
