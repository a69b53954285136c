-- A turn after which a task of orphans may start, and what it keeps of the heap.
use Rattle.std.proofs.Common.{◌≡◌, Bool, true, false, cond, ap, ◌∙◌}
use Rattle.pool_types.specs.declared.values.Turn.{Turn}
use Rattle.heap_slabs.specs.declared.heap.Heap.{Heap}
use Rattle.step_local.specs.declared.frames.Local.{Local}
use Rattle.step_local.specs.declared.frames.ResetStage.{ResetStage}
use Rattle.step_local.specs.declared.frames.Stage.{Stage}
use Rattle.orphan_tasks.specs.Starts.{NoOrphans, NoneBehind, OrphanStarts}

-- the heap is the same
abbrev pub IsStarted : Local → Local × Turn → Type 0
IsStarted l turn = OrphanStarts turn.0 × (turn.0.heap ≡ l.heap)

-- the slabs that are to be pushed back are the same
abbrev pub IsMoved : Local → Local × Turn → Type 0
IsMoved l turn = OrphanStarts turn.0 × (turn.0.heap.spares ≡ l.heap.spares)

pub either : (l : Local) (b : Bool) (x y : Local × Turn) → IsStarted l x → IsStarted l y → IsStarted l (cond b x y)
either l true x y one other = one
either l false x y one other = other

pub either_moves : (l : Local) (b : Bool) (x y : Local × Turn) → IsMoved l x → IsMoved l y → IsMoved l (cond b x y)
either_moves l true x y one other = one
either_moves l false x y one other = other

pub moves : (before l : Local) (turn : Local × Turn) → before.heap.spares ≡ l.heap.spares → IsStarted before turn
    → IsMoved l turn
moves before l turn same started = (started.0, ap (λ (heap : Heap). heap.spares) started.1 ∙ same)

pub none_behind : (stage : Stage) → NoOrphans stage → NoneBehind stage
none_behind (Stage.Resetting (ResetStage.Orphans rest)) free = absurd free
none_behind (Stage.Resetting (ResetStage.Heap class)) free = tt
none_behind (Stage.Resetting (ResetStage.Large region granule)) free = tt
none_behind (Stage.Resetting (ResetStage.Cache granules)) free = tt
none_behind (Stage.Resetting (ResetStage.Queue rest)) free = tt
none_behind (Stage.Resetting (ResetStage.Regions below)) free = tt
none_behind _ free = tt
