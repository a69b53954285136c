use Rattle.chain_laws.proofs.Examples.{pushes_of_members_are_wrong}
use Rattle.chain_laws.proofs.laws.pushes_of_members_are_wrong.Goals as goal

pub returns : goal.returns
returns c = pushes_of_members_are_wrong
