use Rattle.mail_laws.proofs.Examples.{second_duties_are_wrong}
use Rattle.mail_laws.proofs.laws.second_duties_are_wrong.Goals as goal

pub returns : goal.returns
returns c = second_duties_are_wrong
