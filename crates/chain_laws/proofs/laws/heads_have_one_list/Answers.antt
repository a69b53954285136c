use Rattle.chain_laws.proofs.Leading.{heads_have_one_list}
use Rattle.chain_laws.proofs.laws.heads_have_one_list.Goals as goal

pub returns : goal.returns
returns c = heads_have_one_list
