use Rattle.slab_laws.proofs.Examples.{silent_uncachings_are_wrong}
use Rattle.slab_laws.proofs.laws.silent_uncachings_are_wrong.Goals as goal

pub returns : goal.returns
returns c = silent_uncachings_are_wrong
