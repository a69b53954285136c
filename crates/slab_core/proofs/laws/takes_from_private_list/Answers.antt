use Rattle.slab_core.proofs.PrivateLemmas.{takes_from_private_list}
use Rattle.slab_core.proofs.laws.takes_from_private_list.Goals as goal

pub returns : goal.returns
returns c = takes_from_private_list
