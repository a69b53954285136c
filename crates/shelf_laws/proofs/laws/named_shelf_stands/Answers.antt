use Rattle.shelf_laws.proofs.Examples.{named_shelf_stands}
use Rattle.shelf_laws.proofs.laws.named_shelf_stands.Goals as goal

pub returns : goal.returns
returns c = named_shelf_stands c.named_pool_stands.ensures.good
