use Rattle.chain_laws.proofs.Leading.{other_links_leave_chain}
use Rattle.chain_laws.proofs.laws.other_links_leave_chain.Goals as goal

pub returns : goal.returns
returns c = other_links_leave_chain
