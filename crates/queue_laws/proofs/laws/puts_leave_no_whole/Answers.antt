use Rattle.queue_laws.proofs.Whole.{puts_leave_no_whole}
use Rattle.queue_laws.proofs.laws.puts_leave_no_whole.Goals as goal

pub returns : goal.returns
returns c = puts_leave_no_whole
