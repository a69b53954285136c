use Rattle.shelf_laws.proofs.Examples.{strange_puts_are_wrong}
use Rattle.shelf_laws.proofs.laws.strange_puts_are_wrong.Goals as goal

pub returns : goal.returns
returns c = strange_puts_are_wrong c.named_shelf_stands.ensures
