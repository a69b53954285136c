use Rattle.heap_slabs.proofs.Agreement.{takes_as_slabs}
use Rattle.heap_slabs.proofs.laws.takes_as_slabs.Goals as goal

pub returns : goal.returns
returns c = takes_as_slabs
