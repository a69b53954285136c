use Rattle.chain_laws.proofs.Examples.{loose_chains_are_wrong}
use Rattle.chain_laws.proofs.laws.loose_chains_are_wrong.Goals as goal

pub returns : goal.returns
returns c = loose_chains_are_wrong
