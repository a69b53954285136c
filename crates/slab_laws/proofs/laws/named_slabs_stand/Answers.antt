use Rattle.slab_laws.proofs.Examples.{named_slabs_stand}
use Rattle.slab_laws.proofs.laws.named_slabs_stand.Goals as goal

pub returns : goal.returns
returns c = named_slabs_stand
