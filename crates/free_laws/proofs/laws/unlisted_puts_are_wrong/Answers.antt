use Rattle.free_laws.proofs.Examples.{unlisted_puts_are_wrong}
use Rattle.free_laws.proofs.laws.unlisted_puts_are_wrong.Goals as goal

pub returns : goal.returns
returns c = unlisted_puts_are_wrong c.named_space_stands.ensures
