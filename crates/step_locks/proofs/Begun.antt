-- A call that begins, or a reset, leaves the lock that its seat has.
use Rattle.std.proofs.Common.{◌≡◌, ℕ, Bool, true, false, cond, refl, sym, ◌∙◌}
use Rattle.std.specs.Prelude.{Option, Some, None, Result, Ok, Err}
use Rattle.heap_slabs.specs.declared.heap.Leaving.{Leaving}
use Rattle.heap_slabs.specs.Heaps.{next_to_leave}
use Rattle.std.specs.Int.{is_power_of_two}
use Rattle.pool_types.specs.declared.values.Answer.{Answer}
use Rattle.pool_types.specs.declared.values.InCall.{InCall}
use Rattle.pool_types.specs.declared.values.NullCause.{NullCause}
use Rattle.pool_types.specs.declared.values.Place.{Place}
use Rattle.pool_types.specs.declared.values.Request.{Request}
use Rattle.step_local.specs.declared.frames.At.{At}
use Rattle.step_local.specs.declared.frames.Local.{Local}
use Rattle.step_local.specs.declared.frames.Served.{Served}
use Rattle.step_local.specs.declared.frames.Stage.{Stage}
use Rattle.step_local.specs.Getting.{served_as, refusal_of, begun_get_as, begun_get, is_looked_at}
use Rattle.step_local.specs.Getting.{begun_look, begun_leave_as, begun_leave, begun_realloc, begun_aligned, begun_at}
use Rattle.step_local.specs.Getting.{begun_as, asked_for, is_idle, begun, heap_begun, reset_begun, reset_begun_as}
use Rattle.step_local.specs.Resetting.{resetting}
use Rattle.step_local.specs.declared.frames.Reset.{Reset}
use Rattle.step_local.specs.declared.frames.ResetStage.{ResetStage}
use Rattle.step_locks.proofs.FreeResets.{free-heap_on}
use Rattle.step_locks.specs.Holdings.{no_lock}
use Rattle.step_locks.specs.Positions.{holding_at, holding_of}
use Rattle.step_locks.proofs.FreeLarge.{free-getting}

abbrev IsOut : Local → Type 0
IsOut l = holding_of l ≡ no_lock

either_begun : (b : Bool) (x y : Local) → IsOut x → IsOut y → IsOut (cond b x y)
either_begun true x y one other = one
either_begun false x y one other = other

free-begun_get_as : (l : Local) (wanted : Option Served) (cause : Option NullCause)
    → IsOut (begun_get_as l wanted cause)
free-begun_get_as l wanted (Some cause) = refl
free-begun_get_as l (Some served) None = free-getting l served
free-begun_get_as l None None = refl

free-begun_get : (l : Local) (wanted : Option Served) → IsOut (begun_get l wanted)
free-begun_get l wanted = free-begun_get_as l wanted (refusal_of l wanted)

free-begun_look : (l : Local) (request : Request) (place : Place) → IsOut (begun_look l request place)
free-begun_look l request place = either_begun (is_looked_at l place) _ _ refl refl

free-begun_leave_as : (l : Local) (what : Leaving) → IsOut (begun_leave_as l what)
free-begun_leave_as l Leaving.Nothing = refl
free-begun_leave_as l (Leaving.Cached slab) = refl
free-begun_leave_as l (Leaving.Unused kept) = refl
free-begun_leave_as l (Leaving.Held kept) = refl

free-begun_leave : (l : Local) → IsOut (begun_leave l)
free-begun_leave l =
    let l' : Local = record l { call = record l.call { stage = Stage.Leaving } } in
    free-begun_leave_as l' (next_to_leave l'.heap)

free-begun_realloc : (l : Local) (request : Request) (place : Option Place) (wanted : Option Served)
    → IsOut (begun_realloc l request place wanted)
free-begun_realloc l request (Some place) wanted = free-begun_look l request place
free-begun_realloc l request None wanted = free-begun_get l wanted

free-begun_aligned : (l : Local) (request : Request) (place : Option Place) (size alignment : ℕ)
    → IsOut (begun_aligned l request place size alignment)
free-begun_aligned l request place size alignment = either_begun (is_power_of_two alignment) _ _
    (free-begun_realloc l request place (served_as size (Some alignment))) refl

free-begun_at : (l : Local) (request : Request) (place : Option Place) (of_null : Answer)
    → IsOut (begun_at l request place of_null)
free-begun_at l request (Some place) of_null = free-begun_look l request place
free-begun_at l request None of_null = refl

free-begun_as : (l : Local) (request : Request) → IsOut (begun_as l request)
free-begun_as l (Request.Malloc size) = free-begun_get l (served_as size None)
free-begun_as l (Request.Aligned size alignment) = free-begun_get l (served_as size (Some alignment))
free-begun_as l (Request.Realloc place size) =
    free-begun_realloc l (Request.Realloc place size) place (served_as size None)
free-begun_as l (Request.AlignedRealloc place size alignment) =
    free-begun_aligned l (Request.AlignedRealloc place size alignment) place size alignment
free-begun_as l (Request.Free place) = free-begun_at l (Request.Free place) place Answer.False
free-begun_as l (Request.Msize place) = free-begun_at l (Request.Msize place) place (Answer.Size 0)
free-begun_as l (Request.Identify place) = free-begun_at l (Request.Identify place) place Answer.NoPool
free-begun_as l Request.Exit = free-begun_leave l

-- a call that begins begins where none is begun
idle_free : (l : Local) (at : At) → is_idle at ≡ true → holding_at l at ≡ no_lock
idle_free l At.Idle e = refl
idle_free l _ e = absurd (cc)

pub begun_holds : (l : Local) (request : Request) → holding_of (begun l request).0 ≡ holding_of l
begun_holds l request = by (is_idle l.at) refl
  where
    by : (b : Bool) → is_idle l.at ≡ b
        → holding_of (cond {A = Local × Result Unit InCall} b
        (begun_as (asked_for l request) request, Ok tt) (l, Err (record { seat = l.seat }))).0 ≡ holding_of l
    by true e = free-begun_as (asked_for l request) request ∙ sym (idle_free l l.at e)
    by false e = refl

free-heap_begun : (l : Local) (what : Leaving) → IsOut (heap_begun l what)
free-heap_begun l Leaving.Nothing = refl
free-heap_begun l (Leaving.Cached slab) = free-heap_on l None
free-heap_begun l (Leaving.Unused kept) = free-heap_on l None
free-heap_begun l (Leaving.Held kept) = free-heap_on l None

free-reset_begun_as : (l : Local) (reset : Reset) → IsOut (reset_begun_as l reset)
free-reset_begun_as l Reset.Heap = free-heap_begun (resetting l (ResetStage.Heap None)) (next_to_leave l.heap)
free-reset_begun_as l Reset.Pool = refl

pub reset_begun_holds : (l : Local) (reset : Reset) → holding_of (reset_begun l reset).0 ≡ holding_of l
reset_begun_holds l reset = by (is_idle l.at) refl
  where
    by : (b : Bool) → is_idle l.at ≡ b
        → holding_of (cond {A = Local × Result Unit InCall} b
        (reset_begun_as l reset, Ok tt) (l, Err (record { seat = l.seat }))).0 ≡ holding_of l
    by true e = free-reset_begun_as l reset ∙ sym (idle_free l l.at e)
    by false e = refl
