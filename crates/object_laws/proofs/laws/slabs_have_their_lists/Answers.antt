use Rattle.object_laws.proofs.Heads.{slabs_have_their_lists}
use Rattle.object_laws.proofs.laws.slabs_have_their_lists.Goals as goal

pub returns : goal.returns
returns c = slabs_have_their_lists
