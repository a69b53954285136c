use Rattle.heap_slabs.proofs.Agreement.{headers_are_slabs}
use Rattle.heap_slabs.proofs.laws.headers_are_slabs.Goals as goal

pub returns : goal.returns
returns c = headers_are_slabs
