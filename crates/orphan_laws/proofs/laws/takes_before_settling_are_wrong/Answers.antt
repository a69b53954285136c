use Rattle.orphan_laws.proofs.Examples.{takes_before_settling_are_wrong}
use Rattle.orphan_laws.proofs.laws.takes_before_settling_are_wrong.Goals as goal

pub returns : goal.returns
returns c = takes_before_settling_are_wrong
