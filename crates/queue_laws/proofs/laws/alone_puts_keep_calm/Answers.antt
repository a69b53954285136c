use Rattle.queue_laws.proofs.KeepCalm.{alone_puts_keep_calm}
use Rattle.queue_laws.proofs.laws.alone_puts_keep_calm.Goals as goal

pub returns : goal.returns
returns c = alone_puts_keep_calm
