use Rattle.slab_laws.proofs.Examples.{uncounted_joins_are_wrong}
use Rattle.slab_laws.proofs.laws.uncounted_joins_are_wrong.Goals as goal

pub returns : goal.returns
returns c = uncounted_joins_are_wrong
