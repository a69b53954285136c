use Rattle.slab_laws.proofs.Examples.{headerless_leavings_are_wrong}
use Rattle.slab_laws.proofs.laws.headerless_leavings_are_wrong.Goals as goal

pub returns : goal.returns
returns c = headerless_leavings_are_wrong
