use Rattle.mail_laws.proofs.Examples.{named_mail_stands}
use Rattle.mail_laws.proofs.laws.named_mail_stands.Goals as goal

pub returns : goal.returns
returns c = named_mail_stands
