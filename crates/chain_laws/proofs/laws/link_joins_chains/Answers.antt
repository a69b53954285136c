use Rattle.chain_laws.proofs.Leading.{link_joins_chains}
use Rattle.chain_laws.proofs.laws.link_joins_chains.Goals as goal

pub returns : goal.returns
returns c = link_joins_chains
