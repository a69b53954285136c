use Rattle.mail_laws.proofs.Examples.{stray_mailings_are_wrong}
use Rattle.mail_laws.proofs.laws.stray_mailings_are_wrong.Goals as goal

pub returns : goal.returns
returns c = stray_mailings_are_wrong
