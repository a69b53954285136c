use Rattle.chain_laws.proofs.Examples.{fresh_chains_are_empty}
use Rattle.chain_laws.proofs.laws.fresh_chains_are_empty.Goals as goal

pub returns : goal.returns
returns c = fresh_chains_are_empty
