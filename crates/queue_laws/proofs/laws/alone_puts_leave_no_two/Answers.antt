use Rattle.queue_laws.proofs.Alone.{alone_puts_leave_no_two}
use Rattle.queue_laws.proofs.laws.alone_puts_leave_no_two.Goals as goal

pub returns : goal.returns
returns c = alone_puts_leave_no_two
