-- A call that begins, or a reset, begins where a job may begin.
use Rattle.std.proofs.Common.{◌≡◌, ℕ, Bool, true, false, cond, refl, inl, inr, ◌⊎◌}
use Rattle.std.specs.Prelude.{Option, Some, None, Result, Ok, Err}
use Rattle.heap_slabs.specs.declared.heap.Leaving.{Leaving}
use Rattle.heap_slabs.specs.Heaps.{next_to_leave}
use Rattle.std.specs.Int.{is_power_of_two}
use Rattle.pool_types.specs.declared.values.Answer.{Answer}
use Rattle.pool_types.specs.declared.values.InCall.{InCall}
use Rattle.pool_types.specs.declared.values.NullCause.{NullCause}
use Rattle.pool_types.specs.declared.values.Place.{Place}
use Rattle.pool_types.specs.declared.values.Request.{Request}
use Rattle.step_local.specs.declared.frames.At.{At}
use Rattle.step_local.specs.declared.frames.Local.{Local}
use Rattle.step_local.specs.declared.frames.Served.{Served}
use Rattle.step_local.specs.declared.frames.Stage.{Stage}
use Rattle.step_local.specs.Getting.{served_as, refusal_of, begun_get_as, begun_get, is_looked_at}
use Rattle.step_local.specs.Getting.{begun_look, begun_leave_as, begun_leave, begun_realloc, begun_aligned, begun_at}
use Rattle.step_local.specs.Getting.{begun_as, asked_for, is_idle, begun, heap_begun, reset_begun, reset_begun_as}
use Rattle.step_local.specs.Resetting.{resetting}
use Rattle.step_local.specs.declared.frames.Reset.{Reset}
use Rattle.step_local.specs.declared.frames.ResetStage.{ResetStage}
use Rattle.cache_tasks.proofs.StartedResets.{starts-heap_on}
use Rattle.cache_laws.specs.Good.{Task}
use Rattle.cache_tasks.specs.Cache.{CacheStarts, cache_task_at}
use Rattle.cache_tasks.specs.Laws.{BeginsStartCacheTasks, StartsOrStaysAtCache}
use Rattle.cache_tasks.proofs.Started.{Kept, same}
use Rattle.cache_tasks.proofs.StartedLarge.{starts-getting}

abbrev pub IsBegun : Local → Local → Type 0
IsBegun l next = CacheStarts next × Kept l.released next.released

either_begun : (l : Local) (b : Bool) (x y : Local) → IsBegun l x → IsBegun l y → IsBegun l (cond b x y)
either_begun l true x y one other = one
either_begun l false x y one other = other

starts-begun_get_as : (l : Local) (wanted : Option Served) (cause : Option NullCause)
    → IsBegun l (begun_get_as l wanted cause)
starts-begun_get_as l wanted (Some cause) = (tt, same l.released)
starts-begun_get_as l (Some served) None = starts-getting l served
starts-begun_get_as l None None = (tt, same l.released)

starts-begun_get : (l : Local) (wanted : Option Served) → IsBegun l (begun_get l wanted)
starts-begun_get l wanted = starts-begun_get_as l wanted (refusal_of l wanted)

starts-begun_look : (l : Local) (request : Request) (place : Place) → IsBegun l (begun_look l request place)
starts-begun_look l request place =
    either_begun l (is_looked_at l place) _ _ (tt, same l.released) (tt, same l.released)

starts-begun_leave_as : (l : Local) (what : Leaving) → IsBegun l (begun_leave_as l what)
starts-begun_leave_as l Leaving.Nothing = (tt, same l.released)
starts-begun_leave_as l (Leaving.Cached slab) = (tt, same l.released)
starts-begun_leave_as l (Leaving.Unused kept) = (tt, same l.released)
starts-begun_leave_as l (Leaving.Held kept) = (tt, same l.released)

starts-begun_leave : (l : Local) → IsBegun l (begun_leave l)
starts-begun_leave l =
    let l' : Local = record l { call = record l.call { stage = Stage.Leaving } } in
    starts-begun_leave_as l' (next_to_leave l'.heap)

starts-begun_realloc : (l : Local) (request : Request) (place : Option Place) (wanted : Option Served)
    → IsBegun l (begun_realloc l request place wanted)
starts-begun_realloc l request (Some place) wanted = starts-begun_look l request place
starts-begun_realloc l request None wanted = starts-begun_get l wanted

starts-begun_aligned : (l : Local) (request : Request) (place : Option Place) (size alignment : ℕ)
    → IsBegun l (begun_aligned l request place size alignment)
starts-begun_aligned l request place size alignment = either_begun l (is_power_of_two alignment) _ _
    (starts-begun_realloc l request place (served_as size (Some alignment))) (tt, same l.released)

starts-begun_at : (l : Local) (request : Request) (place : Option Place) (of_null : Answer)
    → IsBegun l (begun_at l request place of_null)
starts-begun_at l request (Some place) of_null = starts-begun_look l request place
starts-begun_at l request None of_null = (tt, same l.released)

starts-begun_as : (l : Local) (request : Request) → IsBegun l (begun_as l request)
starts-begun_as l (Request.Malloc size) = starts-begun_get l (served_as size None)
starts-begun_as l (Request.Aligned size alignment) = starts-begun_get l (served_as size (Some alignment))
starts-begun_as l (Request.Realloc place size) =
    starts-begun_realloc l (Request.Realloc place size) place (served_as size None)
starts-begun_as l (Request.AlignedRealloc place size alignment) =
    starts-begun_aligned l (Request.AlignedRealloc place size alignment) place size alignment
starts-begun_as l (Request.Free place) = starts-begun_at l (Request.Free place) place Answer.False
starts-begun_as l (Request.Msize place) = starts-begun_at l (Request.Msize place) place (Answer.Size 0)
starts-begun_as l (Request.Identify place) = starts-begun_at l (Request.Identify place) place Answer.NoPool
starts-begun_as l Request.Exit = starts-begun_leave l

-- a call begins where none is begun
idle_away : (l : Local) (at : At) → is_idle at ≡ true → cache_task_at l at ≡ Task.Away
idle_away l At.Idle e = refl
idle_away l _ e = absurd (cc)

abbrev pub BegunAt : Local → Local → Type 0
BegunAt l next = ((is_idle l.at ≡ true) × IsBegun l next) ⊎ (next ≡ l)

pub begun_lands : (l : Local) (request : Request) → BegunAt l (begun l request).0
begun_lands l request = by (is_idle l.at) refl
  where
    by : (b : Bool) → is_idle l.at ≡ b → BegunAt l (cond {A = Local × Result Unit InCall} b
        (begun_as (asked_for l request) request, Ok tt) (l, Err (record { seat = l.seat }))).0
    by true e = inl (e, starts-begun_as (asked_for l request) request)
    by false e = inr refl

starts-heap_begun : (l : Local) (what : Leaving) → IsBegun l (heap_begun l what)
starts-heap_begun l Leaving.Nothing = (tt, same l.released)
starts-heap_begun l (Leaving.Cached slab) = starts-heap_on l None
starts-heap_begun l (Leaving.Unused kept) = starts-heap_on l None
starts-heap_begun l (Leaving.Held kept) = starts-heap_on l None

starts-reset_begun_as : (l : Local) (reset : Reset) → IsBegun l (reset_begun_as l reset)
starts-reset_begun_as l Reset.Heap =
    starts-heap_begun (resetting l (ResetStage.Heap None)) (next_to_leave l.heap)
starts-reset_begun_as l Reset.Pool = (tt, same l.released)

pub reset_begun_lands : (l : Local) (reset : Reset) → BegunAt l (reset_begun l reset).0
reset_begun_lands l reset = by (is_idle l.at) refl
  where
    by : (b : Bool) → is_idle l.at ≡ b → BegunAt l (cond {A = Local × Result Unit InCall} b
        (reset_begun_as l reset, Ok tt) (l, Err (record { seat = l.seat }))).0
    by true e = inl (e, starts-reset_begun_as l reset)
    by false e = inr refl

cache_begins : (l next : Local) → BegunAt l next → StartsOrStaysAtCache l next
cache_begins l next (inl (idle, begins)) = inl (idle_away l l.at idle, begins.0)
cache_begins l next (inr is) = inr is

pub begins_start_cache_tasks : BeginsStartCacheTasks
begins_start_cache_tasks l = record {
  begins = λ request. cache_begins l (begun l request).0 (begun_lands l request);
  resets = λ reset. cache_begins l (reset_begun l reset).0 (reset_begun_lands l reset);
}
