use Rattle.object_laws.proofs.Heads.{fresh_pools_have_no_objects}
use Rattle.object_laws.proofs.laws.fresh_pools_have_no_objects.Goals as goal

pub returns : goal.returns
returns c = fresh_pools_have_no_objects
