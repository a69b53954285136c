use Rattle.cache_tasks.proofs.Taken.{taken_blocks_come_into_hand}
use Rattle.cache_tasks.proofs.laws.taken_blocks_come_into_hand.Goals as goal

pub returns : goal.returns
returns c = taken_blocks_come_into_hand
