use Rattle.free_laws.proofs.Examples.{named_space_stands}
use Rattle.free_laws.proofs.laws.named_space_stands.Goals as goal

pub returns : goal.returns
returns c = named_space_stands c.fresh_spaces_are_good.ensures
