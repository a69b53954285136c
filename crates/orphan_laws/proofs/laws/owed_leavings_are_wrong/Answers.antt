use Rattle.orphan_laws.proofs.Examples.{owed_leavings_are_wrong}
use Rattle.orphan_laws.proofs.laws.owed_leavings_are_wrong.Goals as goal

pub returns : goal.returns
returns c = owed_leavings_are_wrong
