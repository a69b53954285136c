use Rattle.use_laws.proofs.Examples.{seized_blocks_are_wrong}
use Rattle.use_laws.proofs.laws.seized_blocks_are_wrong.Goals as goal

pub returns : goal.returns
returns c = seized_blocks_are_wrong c.named_pool_stands.ensures
