use Rattle.shelf_laws.proofs.Examples.{lost_blocks_are_wrong}
use Rattle.shelf_laws.proofs.laws.lost_blocks_are_wrong.Goals as goal

pub returns : goal.returns
returns c = lost_blocks_are_wrong c.named_shelf_stands.ensures
