use Rattle.object_laws.proofs.Named.{loose_joins_are_wrong}
use Rattle.object_laws.proofs.laws.loose_joins_are_wrong.Goals as goal

pub returns : goal.returns
returns c = loose_joins_are_wrong
