use Rattle.queue_laws.proofs.Puts.{others_keep_puts}
use Rattle.queue_laws.proofs.laws.others_keep_puts.Goals as goal

pub returns : goal.returns
returns c = others_keep_puts
