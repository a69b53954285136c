use Rattle.chain_laws.proofs.Leading.{walker_splits_chain}
use Rattle.chain_laws.proofs.laws.walker_splits_chain.Goals as goal

pub returns : goal.returns
returns c = walker_splits_chain
