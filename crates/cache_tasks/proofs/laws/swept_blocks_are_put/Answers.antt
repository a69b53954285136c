use Rattle.cache_tasks.proofs.Taken.{swept_blocks_are_put}
use Rattle.cache_tasks.proofs.laws.swept_blocks_are_put.Goals as goal

pub returns : goal.returns
returns c = swept_blocks_are_put
