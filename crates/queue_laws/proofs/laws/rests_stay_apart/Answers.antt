use Rattle.queue_laws.proofs.Apart.{rests_stay_apart}
use Rattle.queue_laws.proofs.laws.rests_stay_apart.Goals as goal

pub returns : goal.returns
returns c = rests_stay_apart
