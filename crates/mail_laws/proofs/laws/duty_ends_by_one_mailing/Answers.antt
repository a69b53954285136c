use Rattle.mail_laws.proofs.Examples.{duty_ends_by_one_mailing}
use Rattle.mail_laws.proofs.laws.duty_ends_by_one_mailing.Goals as goal

pub returns : goal.returns
returns c = duty_ends_by_one_mailing
