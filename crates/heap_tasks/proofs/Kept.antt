-- A turn that leaves the heap, and the number of the last grant, as they were.
use Rattle.std.proofs.Common.{Bool, true, false, cond}
use Rattle.pool_types.specs.declared.values.Turn.{Turn}
use Rattle.step_local.specs.declared.frames.Local.{Local}
use Rattle.heap_tasks.specs.Heaps.{HeapIs, cached_of, kept_of, last_of}

abbrev pub Keeps : Local → Local × Turn → Type 0
Keeps l turn = HeapIs turn.0 (kept_of l) (cached_of l) (last_of l)

pub either : (l : Local) (b : Bool) (x y : Local × Turn) → Keeps l x → Keeps l y → Keeps l (cond b x y)
either l true x y one other = one
either l false x y one other = other
