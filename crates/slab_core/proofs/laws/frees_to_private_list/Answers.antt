use Rattle.slab_core.proofs.PrivateLemmas.{frees_to_private_list}
use Rattle.slab_core.proofs.laws.frees_to_private_list.Goals as goal

pub returns : goal.returns
returns c = frees_to_private_list
