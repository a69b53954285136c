use Rattle.heap_slabs.proofs.Agreement.{units_are_offsets}
use Rattle.heap_slabs.proofs.laws.units_are_offsets.Goals as goal

pub returns : goal.returns
returns c = units_are_offsets
