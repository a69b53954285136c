use Rattle.mail_laws.proofs.Examples.{fresh_pools_have_no_mail}
use Rattle.mail_laws.proofs.laws.fresh_pools_have_no_mail.Goals as goal

pub returns : goal.returns
returns c = fresh_pools_have_no_mail
