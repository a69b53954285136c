use Rattle.slab_laws.proofs.Examples.{begun_slabs_have_no_objects}
use Rattle.slab_laws.proofs.laws.begun_slabs_have_no_objects.Goals as goal

pub returns : goal.returns
returns c = begun_slabs_have_no_objects
