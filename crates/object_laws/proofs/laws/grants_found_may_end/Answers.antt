use Rattle.object_laws.proofs.Named.{grants_found_may_end}
use Rattle.object_laws.proofs.laws.grants_found_may_end.Goals as goal

pub returns : goal.returns
returns c = grants_found_may_end
