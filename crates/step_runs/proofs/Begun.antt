-- A call that begins leaves the office where it is.
use Rattle.std.proofs.Common.{◌≡◌, ℕ, Bool, true, false, cond, refl, ap}
use Rattle.std.specs.Prelude.{Option, Some, None, Result, Ok, Err}
use Rattle.heap_slabs.specs.declared.heap.Leaving.{Leaving}
use Rattle.heap_slabs.specs.Heaps.{next_to_leave}
use Rattle.std.specs.Int.{is_power_of_two}
use Rattle.pool_types.specs.declared.values.Answer.{Answer}
use Rattle.pool_types.specs.declared.values.InCall.{InCall}
use Rattle.pool_types.specs.declared.values.NullCause.{NullCause}
use Rattle.pool_types.specs.declared.values.Place.{Place}
use Rattle.pool_types.specs.declared.values.Request.{Request}
use Rattle.step_local.specs.declared.frames.At.{At}
use Rattle.step_local.specs.declared.frames.Local.{Local}
use Rattle.step_local.specs.declared.frames.Served.{Served}
use Rattle.step_local.specs.declared.frames.Stage.{Stage}
use Rattle.step_local.specs.Getting.{served_as, refusal_of, begun_get_as, begun_get, is_looked_at}
use Rattle.step_local.specs.Getting.{begun_look, begun_leave_as, begun_leave, begun_realloc, begun_aligned, begun_at}
use Rattle.step_local.specs.Getting.{begun_as, asked_for, is_idle, begun, heap_begun, reset_begun, reset_begun_as}
use Rattle.step_local.specs.Resetting.{resetting}
use Rattle.step_local.specs.declared.frames.Reset.{Reset}
use Rattle.step_local.specs.declared.frames.ResetStage.{ResetStage}
use Rattle.step_runs.proofs.Resets.{carry-heap_on}
use Rattle.step_runs.specs.Places.{carry_of, away}
use Rattle.step_runs.proofs.Large.{carry-getting}

abbrev IsOut : Local → Type 0
IsOut l = carry_of l.at ≡ away

either_begun : (b : Bool) (x y : Local) → IsOut x → IsOut y → IsOut (cond b x y)
either_begun true x y one other = one
either_begun false x y one other = other

carry-begun_get_as : (l : Local) (wanted : Option Served) (cause : Option NullCause)
    → IsOut (begun_get_as l wanted cause)
carry-begun_get_as l wanted (Some cause) = refl
carry-begun_get_as l (Some served) None = carry-getting l served
carry-begun_get_as l None None = refl

carry-begun_get : (l : Local) (wanted : Option Served) → IsOut (begun_get l wanted)
carry-begun_get l wanted = carry-begun_get_as l wanted (refusal_of l wanted)

carry-begun_look : (l : Local) (request : Request) (place : Place) → IsOut (begun_look l request place)
carry-begun_look l request place = either_begun (is_looked_at l place) _ _ refl refl

carry-begun_leave_as : (l : Local) (what : Leaving) → IsOut (begun_leave_as l what)
carry-begun_leave_as l Leaving.Nothing = refl
carry-begun_leave_as l (Leaving.Cached slab) = refl
carry-begun_leave_as l (Leaving.Unused kept) = refl
carry-begun_leave_as l (Leaving.Held kept) = refl

carry-begun_leave : (l : Local) → IsOut (begun_leave l)
carry-begun_leave l =
    let l' : Local = record l { call = record l.call { stage = Stage.Leaving } } in
    carry-begun_leave_as l' (next_to_leave l'.heap)

carry-begun_realloc : (l : Local) (request : Request) (place : Option Place) (wanted : Option Served)
    → IsOut (begun_realloc l request place wanted)
carry-begun_realloc l request (Some place) wanted = carry-begun_look l request place
carry-begun_realloc l request None wanted = carry-begun_get l wanted

carry-begun_aligned : (l : Local) (request : Request) (place : Option Place) (size alignment : ℕ)
    → IsOut (begun_aligned l request place size alignment)
carry-begun_aligned l request place size alignment = either_begun (is_power_of_two alignment) _ _
    (carry-begun_realloc l request place (served_as size (Some alignment))) refl

carry-begun_at : (l : Local) (request : Request) (place : Option Place) (of_null : Answer)
    → IsOut (begun_at l request place of_null)
carry-begun_at l request (Some place) of_null = carry-begun_look l request place
carry-begun_at l request None of_null = refl

carry-begun_as : (l : Local) (request : Request) → IsOut (begun_as l request)
carry-begun_as l (Request.Malloc size) = carry-begun_get l (served_as size None)
carry-begun_as l (Request.Aligned size alignment) = carry-begun_get l (served_as size (Some alignment))
carry-begun_as l (Request.Realloc place size) =
    carry-begun_realloc l (Request.Realloc place size) place (served_as size None)
carry-begun_as l (Request.AlignedRealloc place size alignment) =
    carry-begun_aligned l (Request.AlignedRealloc place size alignment) place size alignment
carry-begun_as l (Request.Free place) = carry-begun_at l (Request.Free place) place Answer.False
carry-begun_as l (Request.Msize place) = carry-begun_at l (Request.Msize place) place (Answer.Size 0)
carry-begun_as l (Request.Identify place) = carry-begun_at l (Request.Identify place) place Answer.NoPool
carry-begun_as l Request.Exit = carry-begun_leave l

pub carry_begun : (l : Local) (request : Request) → carry_of (begun l request).0.at ≡ carry_of l.at
carry_begun l request = by l.at refl
  where
    by : (at : At) → l.at ≡ at
        → carry_of (cond {A = Local × Result Unit InCall} (is_idle at)
        (begun_as (asked_for l request) request, Ok tt) (l, Err (record { seat = l.seat }))).0.at ≡ carry_of at
    by At.Idle e = carry-begun_as (asked_for l request) request
    by at e = ap carry_of e

carry-heap_begun : (l : Local) (what : Leaving) → IsOut (heap_begun l what)
carry-heap_begun l Leaving.Nothing = refl
carry-heap_begun l (Leaving.Cached slab) = carry-heap_on l None
carry-heap_begun l (Leaving.Unused kept) = carry-heap_on l None
carry-heap_begun l (Leaving.Held kept) = carry-heap_on l None

carry-reset_begun_as : (l : Local) (reset : Reset) → IsOut (reset_begun_as l reset)
carry-reset_begun_as l Reset.Heap = carry-heap_begun (resetting l (ResetStage.Heap None)) (next_to_leave l.heap)
carry-reset_begun_as l Reset.Pool = refl

pub carry_reset_begun : (l : Local) (reset : Reset) → carry_of (reset_begun l reset).0.at ≡ carry_of l.at
carry_reset_begun l reset = by l.at refl
  where
    by : (at : At) → l.at ≡ at
        → carry_of (cond {A = Local × Result Unit InCall} (is_idle at)
        (reset_begun_as l reset, Ok tt) (l, Err (record { seat = l.seat }))).0.at ≡ carry_of at
    by At.Idle e = carry-reset_begun_as l reset
    by at e = ap carry_of e
