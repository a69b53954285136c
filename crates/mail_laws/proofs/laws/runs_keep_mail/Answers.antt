use Rattle.mail_laws.proofs.Keeps.{runs_keep_mail}
use Rattle.mail_laws.proofs.laws.runs_keep_mail.Goals as goal

pub returns : goal.returns
returns c = runs_keep_mail
