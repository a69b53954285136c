use Rattle.use_laws.proofs.Examples.{shared_blocks_are_wrong}
use Rattle.use_laws.proofs.laws.shared_blocks_are_wrong.Goals as goal

pub returns : goal.returns
returns c = shared_blocks_are_wrong c.named_pool_stands.ensures
