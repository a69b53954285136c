-- A call that begins, or a reset, begins where a job may begin.
use Rattle.std.proofs.Common.{◌≡◌, ℕ, Bool, true, false, cond, refl, inl, inr, ◌⊎◌, subst, sym}
use Rattle.std.specs.Prelude.{Option, Some, None, Result, Ok, Err}
use Rattle.heap_slabs.specs.declared.heap.Leaving.{Leaving}
use Rattle.heap_slabs.specs.Heaps.{next_to_leave}
use Rattle.std.specs.Int.{is_power_of_two}
use Rattle.pool_types.specs.declared.values.Answer.{Answer}
use Rattle.pool_types.specs.declared.values.InCall.{InCall}
use Rattle.pool_types.specs.declared.values.NullCause.{NullCause}
use Rattle.pool_types.specs.declared.values.Place.{Place}
use Rattle.pool_types.specs.declared.values.Request.{Request}
use Rattle.step_local.specs.declared.frames.At.{At}
use Rattle.step_local.specs.declared.frames.Local.{Local}
use Rattle.step_local.specs.declared.frames.Served.{Served}
use Rattle.step_local.specs.declared.frames.Stage.{Stage}
use Rattle.step_local.specs.Getting.{served_as, refusal_of, begun_get_as, begun_get, is_looked_at}
use Rattle.step_local.specs.Getting.{begun_look, begun_leave_as, begun_leave, begun_realloc, begun_aligned, begun_at}
use Rattle.step_local.specs.Getting.{begun_as, asked_for, is_idle, begun, heap_begun, reset_begun, reset_begun_as}
use Rattle.step_local.specs.Resetting.{resetting}
use Rattle.step_local.specs.declared.frames.Reset.{Reset}
use Rattle.step_local.specs.declared.frames.ResetStage.{ResetStage}
use Rattle.backend_tasks.proofs.BareResets.{bare-heap_on}
use Rattle.backend_tasks.proofs.Bare.{Bare, BareAt, bare_fits, bare_no_task}
use Rattle.backend_tasks.specs.Fits.{BackendFits}
use Rattle.backend_tasks.specs.Laws.{BeginsKeepBackendFits, BeginsOrStays, BeginsStartBackendTasks}
use Rattle.backend_tasks.proofs.BareLarge.{bare-getting}

abbrev IsBegun : Local → Type 0
IsBegun l = Bare l

either_begun : (b : Bool) (x y : Local) → IsBegun x → IsBegun y → IsBegun (cond b x y)
either_begun true x y one other = one
either_begun false x y one other = other

bare-begun_get_as : (l : Local) (wanted : Option Served) (cause : Option NullCause)
    → IsBegun (begun_get_as l wanted cause)
bare-begun_get_as l wanted (Some cause) = tt
bare-begun_get_as l (Some served) None = bare-getting l served
bare-begun_get_as l None None = tt

bare-begun_get : (l : Local) (wanted : Option Served) → IsBegun (begun_get l wanted)
bare-begun_get l wanted = bare-begun_get_as l wanted (refusal_of l wanted)

bare-begun_look : (l : Local) (request : Request) (place : Place) → IsBegun (begun_look l request place)
bare-begun_look l request place = either_begun (is_looked_at l place) _ _ tt tt

bare-begun_leave_as : (l : Local) (what : Leaving) → IsBegun (begun_leave_as l what)
bare-begun_leave_as l Leaving.Nothing = tt
bare-begun_leave_as l (Leaving.Cached slab) = tt
bare-begun_leave_as l (Leaving.Unused kept) = tt
bare-begun_leave_as l (Leaving.Held kept) = tt

bare-begun_leave : (l : Local) → IsBegun (begun_leave l)
bare-begun_leave l =
    let l' : Local = record l { call = record l.call { stage = Stage.Leaving } } in
    bare-begun_leave_as l' (next_to_leave l'.heap)

bare-begun_realloc : (l : Local) (request : Request) (place : Option Place) (wanted : Option Served)
    → IsBegun (begun_realloc l request place wanted)
bare-begun_realloc l request (Some place) wanted = bare-begun_look l request place
bare-begun_realloc l request None wanted = bare-begun_get l wanted

bare-begun_aligned : (l : Local) (request : Request) (place : Option Place) (size alignment : ℕ)
    → IsBegun (begun_aligned l request place size alignment)
bare-begun_aligned l request place size alignment = either_begun (is_power_of_two alignment) _ _
    (bare-begun_realloc l request place (served_as size (Some alignment))) tt

bare-begun_at : (l : Local) (request : Request) (place : Option Place) (of_null : Answer)
    → IsBegun (begun_at l request place of_null)
bare-begun_at l request (Some place) of_null = bare-begun_look l request place
bare-begun_at l request None of_null = tt

bare-begun_as : (l : Local) (request : Request) → IsBegun (begun_as l request)
bare-begun_as l (Request.Malloc size) = bare-begun_get l (served_as size None)
bare-begun_as l (Request.Aligned size alignment) = bare-begun_get l (served_as size (Some alignment))
bare-begun_as l (Request.Realloc place size) =
    bare-begun_realloc l (Request.Realloc place size) place (served_as size None)
bare-begun_as l (Request.AlignedRealloc place size alignment) =
    bare-begun_aligned l (Request.AlignedRealloc place size alignment) place size alignment
bare-begun_as l (Request.Free place) = bare-begun_at l (Request.Free place) place Answer.False
bare-begun_as l (Request.Msize place) = bare-begun_at l (Request.Msize place) place (Answer.Size 0)
bare-begun_as l (Request.Identify place) = bare-begun_at l (Request.Identify place) place Answer.NoPool
bare-begun_as l Request.Exit = bare-begun_leave l

-- a call begins where none is begun
idle_bare : (at : At) → is_idle at ≡ true → BareAt at
idle_bare At.Idle e = tt
idle_bare _ e = absurd (cc)

abbrev BegunAt : Local → Local → Type 0
BegunAt l next = ((is_idle l.at ≡ true) × Bare next) ⊎ (next ≡ l)

begun_bare : (l : Local) (request : Request) → BegunAt l (begun l request).0
begun_bare l request = by (is_idle l.at) refl
  where
    by : (b : Bool) → is_idle l.at ≡ b → BegunAt l (cond {A = Local × Result Unit InCall} b
        (begun_as (asked_for l request) request, Ok tt) (l, Err (record { seat = l.seat }))).0
    by true e = inl (e, bare-begun_as (asked_for l request) request)
    by false e = inr refl

bare-heap_begun : (l : Local) (what : Leaving) → IsBegun (heap_begun l what)
bare-heap_begun l Leaving.Nothing = tt
bare-heap_begun l (Leaving.Cached slab) = bare-heap_on l None
bare-heap_begun l (Leaving.Unused kept) = bare-heap_on l None
bare-heap_begun l (Leaving.Held kept) = bare-heap_on l None

bare-reset_begun_as : (l : Local) (reset : Reset) → IsBegun (reset_begun_as l reset)
bare-reset_begun_as l Reset.Heap =
    bare-heap_begun (resetting l (ResetStage.Heap None)) (next_to_leave l.heap)
bare-reset_begun_as l Reset.Pool = tt

reset_begun_bare : (l : Local) (reset : Reset) → BegunAt l (reset_begun l reset).0
reset_begun_bare l reset = by (is_idle l.at) refl
  where
    by : (b : Bool) → is_idle l.at ≡ b → BegunAt l (cond {A = Local × Result Unit InCall} b
        (reset_begun_as l reset, Ok tt) (l, Err (record { seat = l.seat }))).0
    by true e = inl (e, bare-reset_begun_as l reset)
    by false e = inr refl

bare_begins : (l next : Local) → BegunAt l next → BeginsOrStays l next
bare_begins l next (inl (idle, bare)) = inl (bare_no_task l (idle_bare l.at idle), bare_no_task next bare)
bare_begins l next (inr same) = inr same

pub begins_start_backend_tasks : BeginsStartBackendTasks
begins_start_backend_tasks l = record {
  begins = λ request. bare_begins l (begun l request).0 (begun_bare l request);
  resets = λ reset. bare_begins l (reset_begun l reset).0 (reset_begun_bare l reset);
}

begun_fits : (l next : Local) → BackendFits l → BegunAt l next → BackendFits next
begun_fits l next fits (inl (idle, bare)) = bare_fits next bare
begun_fits l next fits (inr same) = subst BackendFits (sym same) fits

pub begins_keep_backend_fits : BeginsKeepBackendFits
begins_keep_backend_fits l fits = record {
  begins = λ request. begun_fits l (begun l request).0 fits (begun_bare l request);
  resets = λ reset. begun_fits l (reset_begun l reset).0 fits (reset_begun_bare l reset);
}
