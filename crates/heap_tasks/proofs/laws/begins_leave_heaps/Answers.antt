use Rattle.heap_tasks.proofs.HeapBegun.{begins_leave_heaps}
use Rattle.heap_tasks.proofs.laws.begins_leave_heaps.Goals as goal

pub returns : goal.returns
returns c = begins_leave_heaps
