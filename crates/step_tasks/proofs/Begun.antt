-- A call that begins, or a reset, begins where a job may begin.
use Rattle.std.proofs.Common.{◌≡◌, ℕ, Bool, true, false, cond, refl, inl, inr, ◌⊎◌}
use Rattle.std.specs.Prelude.{Option, Some, None, Result, Ok, Err}
use Rattle.heap_slabs.specs.declared.heap.Leaving.{Leaving}
use Rattle.heap_slabs.specs.Heaps.{next_to_leave}
use Rattle.std.specs.Int.{is_power_of_two}
use Rattle.pool_types.specs.declared.values.Answer.{Answer}
use Rattle.pool_types.specs.declared.values.InCall.{InCall}
use Rattle.pool_types.specs.declared.values.NullCause.{NullCause}
use Rattle.pool_types.specs.declared.values.Place.{Place}
use Rattle.pool_types.specs.declared.values.Request.{Request}
use Rattle.step_local.specs.declared.frames.At.{At}
use Rattle.step_local.specs.declared.frames.Local.{Local}
use Rattle.step_local.specs.declared.frames.Served.{Served}
use Rattle.step_local.specs.declared.frames.Stage.{Stage}
use Rattle.step_local.specs.Getting.{served_as, refusal_of, begun_get_as, begun_get, is_looked_at}
use Rattle.step_local.specs.Getting.{begun_look, begun_leave_as, begun_leave, begun_realloc, begun_aligned, begun_at}
use Rattle.step_local.specs.Getting.{begun_as, asked_for, is_idle, begun, heap_begun, reset_begun, reset_begun_as}
use Rattle.step_local.specs.Resetting.{resetting}
use Rattle.step_local.specs.declared.frames.Reset.{Reset}
use Rattle.step_local.specs.declared.frames.ResetStage.{ResetStage}
use Rattle.step_tasks.proofs.StartedResets.{starts-heap_on}
use Rattle.object_laws.specs.Objects.{Task}
use Rattle.mail_laws.specs.Mail as mail
use Rattle.step_tasks.specs.Lands.{Lands}
use Rattle.step_tasks.specs.Laws.{BeginsStartMailTasks, BeginsStartObjectTasks, StartsOrStays, StartsOrStaysWithMail}
use Rattle.step_tasks.specs.Mail.{mail_task_at}
use Rattle.step_tasks.proofs.Lands.{lands_mail, lands_object}
use Rattle.step_tasks.specs.Objects.{object_task_at}
use Rattle.step_tasks.proofs.StartedLarge.{starts-getting}

abbrev IsStarting : Local → Type 0
IsStarting l = Lands l

either_begun : (b : Bool) (x y : Local) → IsStarting x → IsStarting y → IsStarting (cond b x y)
either_begun true x y one other = one
either_begun false x y one other = other

starts-begun_get_as : (l : Local) (wanted : Option Served) (cause : Option NullCause)
    → IsStarting (begun_get_as l wanted cause)
starts-begun_get_as l wanted (Some cause) = tt
starts-begun_get_as l (Some served) None = starts-getting l served
starts-begun_get_as l None None = tt

starts-begun_get : (l : Local) (wanted : Option Served) → IsStarting (begun_get l wanted)
starts-begun_get l wanted = starts-begun_get_as l wanted (refusal_of l wanted)

starts-begun_look : (l : Local) (request : Request) (place : Place) → IsStarting (begun_look l request place)
starts-begun_look l request place = either_begun (is_looked_at l place) _ _ refl tt

starts-begun_leave_as : (l : Local) (what : Leaving) → IsStarting (begun_leave_as l what)
starts-begun_leave_as l Leaving.Nothing = tt
starts-begun_leave_as l (Leaving.Cached slab) = tt
starts-begun_leave_as l (Leaving.Unused kept) = tt
starts-begun_leave_as l (Leaving.Held kept) = tt

starts-begun_leave : (l : Local) → IsStarting (begun_leave l)
starts-begun_leave l =
    let l' : Local = record l { call = record l.call { stage = Stage.Leaving } } in
    starts-begun_leave_as l' (next_to_leave l'.heap)

starts-begun_realloc : (l : Local) (request : Request) (place : Option Place) (wanted : Option Served)
    → IsStarting (begun_realloc l request place wanted)
starts-begun_realloc l request (Some place) wanted = starts-begun_look l request place
starts-begun_realloc l request None wanted = starts-begun_get l wanted

starts-begun_aligned : (l : Local) (request : Request) (place : Option Place) (size alignment : ℕ)
    → IsStarting (begun_aligned l request place size alignment)
starts-begun_aligned l request place size alignment = either_begun (is_power_of_two alignment) _ _
    (starts-begun_realloc l request place (served_as size (Some alignment))) tt

starts-begun_at : (l : Local) (request : Request) (place : Option Place) (of_null : Answer)
    → IsStarting (begun_at l request place of_null)
starts-begun_at l request (Some place) of_null = starts-begun_look l request place
starts-begun_at l request None of_null = tt

starts-begun_as : (l : Local) (request : Request) → IsStarting (begun_as l request)
starts-begun_as l (Request.Malloc size) = starts-begun_get l (served_as size None)
starts-begun_as l (Request.Aligned size alignment) = starts-begun_get l (served_as size (Some alignment))
starts-begun_as l (Request.Realloc place size) =
    starts-begun_realloc l (Request.Realloc place size) place (served_as size None)
starts-begun_as l (Request.AlignedRealloc place size alignment) =
    starts-begun_aligned l (Request.AlignedRealloc place size alignment) place size alignment
starts-begun_as l (Request.Free place) = starts-begun_at l (Request.Free place) place Answer.False
starts-begun_as l (Request.Msize place) = starts-begun_at l (Request.Msize place) place (Answer.Size 0)
starts-begun_as l (Request.Identify place) = starts-begun_at l (Request.Identify place) place Answer.NoPool
starts-begun_as l Request.Exit = starts-begun_leave l

-- a call begins where none is begun
idle_away : (l : Local) (at : At) → is_idle at ≡ true → object_task_at l at ≡ Task.Away
idle_away l At.Idle e = refl
idle_away l _ e = absurd (cc)

mail_away : (l : Local) (at : At) → is_idle at ≡ true → mail_task_at l at ≡ mail.Task.Away
mail_away l At.Idle e = refl
mail_away l _ e = absurd (cc)

abbrev BegunAt : Local → Local → Type 0
BegunAt l next = ((is_idle l.at ≡ true) × Lands next) ⊎ (next ≡ l)

begun_lands : (l : Local) (request : Request) → BegunAt l (begun l request).0
begun_lands l request = by (is_idle l.at) refl
  where
    by : (b : Bool) → is_idle l.at ≡ b → BegunAt l (cond {A = Local × Result Unit InCall} b
        (begun_as (asked_for l request) request, Ok tt) (l, Err (record { seat = l.seat }))).0
    by true e = inl (e, starts-begun_as (asked_for l request) request)
    by false e = inr refl

starts-heap_begun : (l : Local) (what : Leaving) → IsStarting (heap_begun l what)
starts-heap_begun l Leaving.Nothing = tt
starts-heap_begun l (Leaving.Cached slab) = starts-heap_on l None
starts-heap_begun l (Leaving.Unused kept) = starts-heap_on l None
starts-heap_begun l (Leaving.Held kept) = starts-heap_on l None

starts-reset_begun_as : (l : Local) (reset : Reset) → IsStarting (reset_begun_as l reset)
starts-reset_begun_as l Reset.Heap =
    starts-heap_begun (resetting l (ResetStage.Heap None)) (next_to_leave l.heap)
starts-reset_begun_as l Reset.Pool = tt

reset_begun_lands : (l : Local) (reset : Reset) → BegunAt l (reset_begun l reset).0
reset_begun_lands l reset = by (is_idle l.at) refl
  where
    by : (b : Bool) → is_idle l.at ≡ b → BegunAt l (cond {A = Local × Result Unit InCall} b
        (reset_begun_as l reset, Ok tt) (l, Err (record { seat = l.seat }))).0
    by true e = inl (e, starts-reset_begun_as l reset)
    by false e = inr refl

objects_begin : (l next : Local) → BegunAt l next → StartsOrStays l next
objects_begin l next (inl (idle, lands)) = inl (idle_away l l.at idle, lands_object next lands)
objects_begin l next (inr same) = inr same

mail_begins : (l next : Local) → BegunAt l next → StartsOrStaysWithMail l next
mail_begins l next (inl (idle, lands)) = inl (mail_away l l.at idle, lands_mail next lands)
mail_begins l next (inr same) = inr same

pub begins_start_object_tasks : BeginsStartObjectTasks
begins_start_object_tasks l = record {
  begins = λ request. objects_begin l (begun l request).0 (begun_lands l request);
  resets = λ reset. objects_begin l (reset_begun l reset).0 (reset_begun_lands l reset);
}

pub begins_start_mail_tasks : BeginsStartMailTasks
begins_start_mail_tasks l = record {
  begins = λ request. mail_begins l (begun l request).0 (begun_lands l request);
  resets = λ reset. mail_begins l (reset_begun l reset).0 (reset_begun_lands l reset);
}
