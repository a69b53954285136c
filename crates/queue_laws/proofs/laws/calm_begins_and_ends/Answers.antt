use Rattle.queue_laws.proofs.Apart.{calm_begins_and_ends}
use Rattle.queue_laws.proofs.laws.calm_begins_and_ends.Goals as goal

pub returns : goal.returns
returns c = calm_begins_and_ends
