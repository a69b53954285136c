use Rattle.chain_laws.proofs.Pushes.{swap_gives_whole_chain}
use Rattle.chain_laws.proofs.laws.swap_gives_whole_chain.Goals as goal

pub returns : goal.returns
returns c = swap_gives_whole_chain
