use Rattle.queue_laws.proofs.Puts.{puts_come_into_bins}
use Rattle.queue_laws.proofs.laws.puts_come_into_bins.Goals as goal

pub returns : goal.returns
returns c = puts_come_into_bins
