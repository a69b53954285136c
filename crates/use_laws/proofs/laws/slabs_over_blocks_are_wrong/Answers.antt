use Rattle.use_laws.proofs.Examples.{slabs_over_blocks_are_wrong}
use Rattle.use_laws.proofs.laws.slabs_over_blocks_are_wrong.Goals as goal

pub returns : goal.returns
returns c = slabs_over_blocks_are_wrong c.named_pool_stands.ensures
