use Rattle.mail_laws.proofs.Examples.{swap_gives_what_was_mailed}
use Rattle.mail_laws.proofs.laws.swap_gives_what_was_mailed.Goals as goal

pub returns : goal.returns
returns c = swap_gives_what_was_mailed
