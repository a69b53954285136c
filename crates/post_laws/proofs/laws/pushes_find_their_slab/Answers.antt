use Rattle.post_laws.proofs.Premises.{pushes_find_their_slab}
use Rattle.post_laws.proofs.laws.pushes_find_their_slab.Goals as goal

pub returns : goal.returns
returns c = pushes_find_their_slab
