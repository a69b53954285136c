use Rattle.queue_laws.proofs.Rests.{scans_keep_rest}
use Rattle.queue_laws.proofs.laws.scans_keep_rest.Goals as goal

pub returns : goal.returns
returns c = scans_keep_rest
