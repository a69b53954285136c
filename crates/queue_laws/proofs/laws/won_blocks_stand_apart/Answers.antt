use Rattle.queue_laws.proofs.Apart.{won_blocks_stand_apart}
use Rattle.queue_laws.proofs.laws.won_blocks_stand_apart.Goals as goal

pub returns : goal.returns
returns c = won_blocks_stand_apart
