use Rattle.queue_laws.proofs.Apart.{cuts_stand_apart}
use Rattle.queue_laws.proofs.laws.cuts_stand_apart.Goals as goal

pub returns : goal.returns
returns c = cuts_stand_apart
