use Rattle.slab_places.proofs.Lies.{fresh_slabs_lie}
use Rattle.slab_places.proofs.laws.fresh_slabs_lie.Goals as goal

pub returns : goal.returns
returns c = fresh_slabs_lie
