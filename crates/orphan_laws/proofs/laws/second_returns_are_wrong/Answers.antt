use Rattle.orphan_laws.proofs.Examples.{second_returns_are_wrong}
use Rattle.orphan_laws.proofs.laws.second_returns_are_wrong.Goals as goal

pub returns : goal.returns
returns c = second_returns_are_wrong
