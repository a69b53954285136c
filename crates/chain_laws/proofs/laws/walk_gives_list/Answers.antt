use Rattle.chain_laws.proofs.Leading.{walk_gives_list}
use Rattle.chain_laws.proofs.laws.walk_gives_list.Goals as goal

pub returns : goal.returns
returns c = walk_gives_list
