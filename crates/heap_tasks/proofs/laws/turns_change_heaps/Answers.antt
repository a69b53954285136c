use Rattle.heap_tasks.proofs.HeapTurns.{turns_change_heaps}
use Rattle.heap_tasks.proofs.laws.turns_change_heaps.Goals as goal

pub returns : goal.returns
returns c = turns_change_heaps
