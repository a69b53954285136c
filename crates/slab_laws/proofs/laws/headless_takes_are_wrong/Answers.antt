use Rattle.slab_laws.proofs.Examples.{headless_takes_are_wrong}
use Rattle.slab_laws.proofs.laws.headless_takes_are_wrong.Goals as goal

pub returns : goal.returns
returns c = headless_takes_are_wrong
