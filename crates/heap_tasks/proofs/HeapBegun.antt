-- A call that begins, or a reset, leaves the heap, and the number of the last grant, as they were.
use Rattle.std.proofs.Common.{Bool, true, false, cond, refl, ℕ}
use Rattle.std.specs.Prelude.{Option, Some, None, Result, Ok, Err}
use Rattle.std.specs.Int.{is_power_of_two}
use Rattle.heap_slabs.specs.declared.heap.Leaving.{Leaving}
use Rattle.heap_slabs.specs.Heaps.{next_to_leave}
use Rattle.pool_types.specs.declared.values.Answer.{Answer}
use Rattle.pool_types.specs.declared.values.InCall.{InCall}
use Rattle.pool_types.specs.declared.values.NullCause.{NullCause}
use Rattle.pool_types.specs.declared.values.Place.{Place}
use Rattle.pool_types.specs.declared.values.Request.{Request}
use Rattle.step_local.specs.declared.frames.Local.{Local}
use Rattle.step_local.specs.declared.frames.Reset.{Reset}
use Rattle.step_local.specs.declared.frames.ResetStage.{ResetStage}
use Rattle.step_local.specs.declared.frames.Served.{Served}
use Rattle.step_local.specs.declared.frames.Stage.{Stage}
use Rattle.step_local.specs.Getting.{asked_for, begun_aligned, begun_as, begun_at, begun_get, begun_get_as}
use Rattle.step_local.specs.Getting.{begun_leave, begun_leave_as, begun_look, begun_realloc, heap_begun, is_idle}
use Rattle.step_local.specs.Getting.{is_looked_at, refusal_of, reset_begun_as, served_as}
use Rattle.step_local.specs.Resetting.{resetting}
use Rattle.heap_tasks.specs.Laws.{BeginsLeaveHeaps, SameHeap}
use Rattle.heap_tasks.proofs.KeptLarge.{keeps-getting}
use Rattle.heap_tasks.proofs.KeptResets.{keeps-heap_on}

either_begun : (l : Local) (b : Bool) (x y : Local) → SameHeap l x → SameHeap l y → SameHeap l (cond b x y)
either_begun l true x y one other = one
either_begun l false x y one other = other

keeps-begun_get_as : (l : Local) (wanted : Option Served) (cause : Option NullCause)
    → SameHeap l (begun_get_as l wanted cause)
keeps-begun_get_as l wanted (Some cause) = (refl, refl, refl)
keeps-begun_get_as l (Some served) None = keeps-getting l served
keeps-begun_get_as l None None = (refl, refl, refl)

keeps-begun_get : (l : Local) (wanted : Option Served) → SameHeap l (begun_get l wanted)
keeps-begun_get l wanted = keeps-begun_get_as l wanted (refusal_of l wanted)

keeps-begun_look : (l : Local) (request : Request) (place : Place) → SameHeap l (begun_look l request place)
keeps-begun_look l request place =
    either_begun l (is_looked_at l place) _ _ (refl, refl, refl) (refl, refl, refl)

keeps-begun_leave_as : (l : Local) (what : Leaving) → SameHeap l (begun_leave_as l what)
keeps-begun_leave_as l Leaving.Nothing = (refl, refl, refl)
keeps-begun_leave_as l (Leaving.Cached slab) = (refl, refl, refl)
keeps-begun_leave_as l (Leaving.Unused kept) = (refl, refl, refl)
keeps-begun_leave_as l (Leaving.Held kept) = (refl, refl, refl)

keeps-begun_leave : (l : Local) → SameHeap l (begun_leave l)
keeps-begun_leave l =
    keeps-begun_leave_as (record l { call = record l.call { stage = Stage.Leaving } }) (next_to_leave l.heap)

keeps-begun_realloc : (l : Local) (request : Request) (place : Option Place) (wanted : Option Served)
    → SameHeap l (begun_realloc l request place wanted)
keeps-begun_realloc l request (Some place) wanted = keeps-begun_look l request place
keeps-begun_realloc l request None wanted = keeps-begun_get l wanted

keeps-begun_aligned : (l : Local) (request : Request) (place : Option Place) (size alignment : ℕ)
    → SameHeap l (begun_aligned l request place size alignment)
keeps-begun_aligned l request place size alignment = either_begun l (is_power_of_two alignment) _ _
    (keeps-begun_realloc l request place (served_as size (Some alignment))) (refl, refl, refl)

keeps-begun_at : (l : Local) (request : Request) (place : Option Place) (of_null : Answer)
    → SameHeap l (begun_at l request place of_null)
keeps-begun_at l request (Some place) of_null = keeps-begun_look l request place
keeps-begun_at l request None of_null = (refl, refl, refl)

keeps-begun_as : (l : Local) (request : Request) → SameHeap l (begun_as l request)
keeps-begun_as l (Request.Malloc size) = keeps-begun_get l (served_as size None)
keeps-begun_as l (Request.Aligned size alignment) = keeps-begun_get l (served_as size (Some alignment))
keeps-begun_as l (Request.Realloc place size) =
    keeps-begun_realloc l (Request.Realloc place size) place (served_as size None)
keeps-begun_as l (Request.AlignedRealloc place size alignment) =
    keeps-begun_aligned l (Request.AlignedRealloc place size alignment) place size alignment
keeps-begun_as l (Request.Free place) = keeps-begun_at l (Request.Free place) place Answer.False
keeps-begun_as l (Request.Msize place) = keeps-begun_at l (Request.Msize place) place (Answer.Size 0)
keeps-begun_as l (Request.Identify place) = keeps-begun_at l (Request.Identify place) place Answer.NoPool
keeps-begun_as l Request.Exit = keeps-begun_leave l

begun_by : (l : Local) (request : Request) (b : Bool) → SameHeap l (cond {A = Local × Result Unit InCall} b
    (begun_as (asked_for l request) request, Ok tt) (l, Err (record { seat = l.seat }))).0
begun_by l request true = keeps-begun_as (asked_for l request) request
begun_by l request false = (refl, refl, refl)

keeps-heap_begun : (l : Local) (what : Leaving) → SameHeap l (heap_begun l what)
keeps-heap_begun l Leaving.Nothing = (refl, refl, refl)
keeps-heap_begun l (Leaving.Cached slab) = keeps-heap_on l None
keeps-heap_begun l (Leaving.Unused kept) = keeps-heap_on l None
keeps-heap_begun l (Leaving.Held kept) = keeps-heap_on l None

keeps-reset_begun_as : (l : Local) (reset : Reset) → SameHeap l (reset_begun_as l reset)
keeps-reset_begun_as l Reset.Heap =
    keeps-heap_begun (resetting l (ResetStage.Heap None)) (next_to_leave l.heap)
keeps-reset_begun_as l Reset.Pool = (refl, refl, refl)

reset_by : (l : Local) (reset : Reset) (b : Bool) → SameHeap l (cond {A = Local × Result Unit InCall} b
    (reset_begun_as l reset, Ok tt) (l, Err (record { seat = l.seat }))).0
reset_by l reset true = keeps-reset_begun_as l reset
reset_by l reset false = (refl, refl, refl)

pub begins_leave_heaps : BeginsLeaveHeaps
begins_leave_heaps l = record {
  begins = λ request. begun_by l request (is_idle l.at);
  resets = λ reset. reset_by l reset (is_idle l.at);
}
