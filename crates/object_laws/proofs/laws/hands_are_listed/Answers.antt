use Rattle.object_laws.proofs.Heads.{hands_are_listed}
use Rattle.object_laws.proofs.laws.hands_are_listed.Goals as goal

pub returns : goal.returns
returns c = hands_are_listed
