-- A call that begins, or a reset, begins where a task of orphans may start.
use Rattle.std.proofs.Common.{◌≡◌, ℕ, Bool, true, false, cond, refl, ap, inl, inr, ◌⊎◌}
use Rattle.std.specs.Prelude.{Option, Some, None, Result, Ok, Err}
use Rattle.std.specs.Int.{is_power_of_two}
use Rattle.heap_slabs.specs.declared.heap.Heap.{Heap}
use Rattle.heap_slabs.specs.declared.heap.Leaving.{Leaving}
use Rattle.heap_slabs.specs.Heaps.{next_to_leave}
use Rattle.pool_types.specs.declared.values.Answer.{Answer}
use Rattle.pool_types.specs.declared.values.InCall.{InCall}
use Rattle.pool_types.specs.declared.values.NullCause.{NullCause}
use Rattle.pool_types.specs.declared.values.Place.{Place}
use Rattle.pool_types.specs.declared.values.Request.{Request}
use Rattle.step_local.specs.declared.frames.At.{At}
use Rattle.step_local.specs.declared.frames.Local.{Local}
use Rattle.step_local.specs.declared.frames.Reset.{Reset}
use Rattle.step_local.specs.declared.frames.ResetStage.{ResetStage}
use Rattle.step_local.specs.declared.frames.Served.{Served}
use Rattle.step_local.specs.declared.frames.Stage.{Stage}
use Rattle.step_local.specs.Getting.{served_as, refusal_of, begun_get_as, begun_get, is_looked_at}
use Rattle.step_local.specs.Getting.{begun_look, begun_leave_as, begun_leave, begun_realloc, begun_aligned, begun_at}
use Rattle.step_local.specs.Getting.{begun_as, asked_for, is_idle, begun, heap_begun, reset_begun, reset_begun_as}
use Rattle.step_local.specs.Resetting.{resetting}
use Rattle.orphan_laws.specs.Orphans.{Task}
use Rattle.orphan_tasks.specs.Laws.{BeginsStartOrphanTasks, MadeLocalsFitOrphans, OrphanBegins}
use Rattle.orphan_tasks.specs.Orphans.{orphan_task_at}
use Rattle.orphan_tasks.specs.Starts.{NoOrphans, OrphanFits, OrphanFitsAt, OrphanStarts}
use Rattle.orphan_tasks.proofs.Moves.{starts_fits}
use Rattle.orphan_tasks.proofs.StartedLarge.{starts-getting}
use Rattle.orphan_tasks.proofs.StartedResets.{starts-heap_on}

abbrev IsBegun : Local → Local → Type 0
IsBegun l next = OrphanStarts next × (next.heap ≡ l.heap)

either_begun : (l : Local) (b : Bool) (x y : Local) → IsBegun l x → IsBegun l y → IsBegun l (cond b x y)
either_begun l true x y one other = one
either_begun l false x y one other = other

begins-get_as : (l : Local) (wanted : Option Served) (cause : Option NullCause) → NoOrphans l.call.stage
    → IsBegun l (begun_get_as l wanted cause)
begins-get_as l wanted (Some cause) free = (free, refl)
begins-get_as l (Some served) None free = starts-getting l served
begins-get_as l None None free = (free, refl)

begins-get : (l : Local) (wanted : Option Served) → NoOrphans l.call.stage → IsBegun l (begun_get l wanted)
begins-get l wanted free = begins-get_as l wanted (refusal_of l wanted) free

begins-look : (l : Local) (request : Request) (place : Place) → NoOrphans l.call.stage
    → IsBegun l (begun_look l request place)
begins-look l request place free = either_begun l (is_looked_at l place) _ _ (tt, refl) (free, refl)

begins-leave_as : (l : Local) (what : Leaving) → NoOrphans l.call.stage → IsBegun l (begun_leave_as l what)
begins-leave_as l Leaving.Nothing free = (free, refl)
begins-leave_as l (Leaving.Cached slab) free = (free, refl)
begins-leave_as l (Leaving.Unused kept) free = (free, refl)
begins-leave_as l (Leaving.Held kept) free = ((refl, free), refl)

begins-leave : (l : Local) → IsBegun l (begun_leave l)
begins-leave l =
    let l' : Local = record l { call = record l.call { stage = Stage.Leaving } } in
    begins-leave_as l' (next_to_leave l'.heap) tt

begins-realloc : (l : Local) (request : Request) (place : Option Place) (wanted : Option Served)
    → NoOrphans l.call.stage → IsBegun l (begun_realloc l request place wanted)
begins-realloc l request (Some place) wanted free = begins-look l request place free
begins-realloc l request None wanted free = begins-get l wanted free

begins-aligned : (l : Local) (request : Request) (place : Option Place) (size alignment : ℕ)
    → NoOrphans l.call.stage → IsBegun l (begun_aligned l request place size alignment)
begins-aligned l request place size alignment free = either_begun l (is_power_of_two alignment) _ _
    (begins-realloc l request place (served_as size (Some alignment)) free) (free, refl)

begins-at : (l : Local) (request : Request) (place : Option Place) (of_null : Answer) → NoOrphans l.call.stage
    → IsBegun l (begun_at l request place of_null)
begins-at l request (Some place) of_null free = begins-look l request place free
begins-at l request None of_null free = (free, refl)

begins-as : (l : Local) (request : Request) → NoOrphans l.call.stage → IsBegun l (begun_as l request)
begins-as l (Request.Malloc size) free = begins-get l (served_as size None) free
begins-as l (Request.Aligned size alignment) free = begins-get l (served_as size (Some alignment)) free
begins-as l (Request.Realloc place size) free =
    begins-realloc l (Request.Realloc place size) place (served_as size None) free
begins-as l (Request.AlignedRealloc place size alignment) free =
    begins-aligned l (Request.AlignedRealloc place size alignment) place size alignment free
begins-as l (Request.Free place) free = begins-at l (Request.Free place) place Answer.False free
begins-as l (Request.Msize place) free = begins-at l (Request.Msize place) place (Answer.Size 0) free
begins-as l (Request.Identify place) free = begins-at l (Request.Identify place) place Answer.NoPool free
begins-as l Request.Exit free = begins-leave l

begins-heap : (l : Local) (what : Leaving) → NoOrphans l.call.stage → IsBegun l (heap_begun l what)
begins-heap l Leaving.Nothing free = (free, refl)
begins-heap l (Leaving.Cached slab) free = starts-heap_on l None free
begins-heap l (Leaving.Unused kept) free = starts-heap_on l None free
begins-heap l (Leaving.Held kept) free = starts-heap_on l None free

begins-reset : (l : Local) (reset : Reset) → IsBegun l (reset_begun_as l reset)
begins-reset l Reset.Heap = begins-heap (resetting l (ResetStage.Heap None)) (next_to_leave l.heap) tt
begins-reset l Reset.Pool = ((refl, tt), refl)

-- a call begins where none is begun
idle_away : (l : Local) (at : At) → is_idle at ≡ true → orphan_task_at l at ≡ Task.Away
idle_away l At.Idle e = refl
idle_away l _ e = absurd (cc)

idle_free : (l : Local) (at : At) → is_idle at ≡ true → OrphanFitsAt at l.call.stage → NoOrphans l.call.stage
idle_free l At.Idle e fits = fits
idle_free l _ e fits = absurd (cc)

starts-begin : (l next : Local) → is_idle l.at ≡ true → IsBegun l next → OrphanBegins l next
starts-begin l next idle begun = record {
  away = idle_away l l.at idle;
  moves = record {
    goes_on = begun.0;
    fits = starts_fits next.at next.call.stage begun.0;
    spares' = ap (λ (heap : Heap). heap.spares) begun.1;
  };
}

abbrev BegunAt : Local → Local → Type 0
BegunAt l next = OrphanBegins l next ⊎ (next ≡ l)

call_begins : (l : Local) → OrphanFits l → (request : Request) → BegunAt l (begun l request).0
call_begins l fits request = by (is_idle l.at) refl
  where
    by : (b : Bool) → is_idle l.at ≡ b → BegunAt l (cond {A = Local × Result Unit InCall} b
        (begun_as (asked_for l request) request, Ok tt) (l, Err (record { seat = l.seat }))).0
    by true e = inl (starts-begin l (begun_as (asked_for l request) request) e
        (begins-as (asked_for l request) request (idle_free l l.at e fits)))
    by false e = inr refl

reset_begins : (l : Local) (reset : Reset) → BegunAt l (reset_begun l reset).0
reset_begins l reset = by (is_idle l.at) refl
  where
    by : (b : Bool) → is_idle l.at ≡ b → BegunAt l (cond {A = Local × Result Unit InCall} b
        (reset_begun_as l reset, Ok tt) (l, Err (record { seat = l.seat }))).0
    by true e = inl (starts-begin l (reset_begun_as l reset) e (begins-reset l reset))
    by false e = inr refl

pub begins_start_orphan_tasks : BeginsStartOrphanTasks
begins_start_orphan_tasks l fits = record { begins = call_begins l fits; resets = reset_begins l }

pub made_locals_fit_orphans : MadeLocalsFitOrphans
made_locals_fit_orphans k seat = tt
