-- A call that begins, or a reset, notes nothing, and leads where its stage comes.
use Rattle.std.proofs.Common.{◌≡◌, ◌∙◌, Bool, true, false, cond, refl, ap, sym, subst, ℕ}
use Rattle.std.specs.Prelude.{Option, Some, None, Result, Ok, Err, List, [], ◌∷◌}
use Rattle.std.specs.Int.{is_power_of_two}
use Rattle.heap_slabs.specs.declared.heap.Leaving.{Leaving}
use Rattle.heap_slabs.specs.Heaps.{next_to_leave}
use Rattle.large_cache.specs.declared.sweep.Cleanup.{Cleanup}
use Rattle.object_laws.specs.Objects.{Note}
use Rattle.pool_types.specs.declared.values.Answer.{Answer}
use Rattle.pool_types.specs.declared.values.InCall.{InCall}
use Rattle.pool_types.specs.declared.values.NullCause.{NullCause}
use Rattle.pool_types.specs.declared.values.Place.{Place}
use Rattle.pool_types.specs.declared.values.Request.{Request}
use Rattle.step_local.specs.declared.frames.At.{At}
use Rattle.step_local.specs.declared.frames.Local.{Local}
use Rattle.step_local.specs.declared.frames.PutFor.{PutFor}
use Rattle.step_local.specs.declared.frames.Reset.{Reset}
use Rattle.step_local.specs.declared.frames.ResetStage.{ResetStage}
use Rattle.step_local.specs.declared.frames.Served.{Served}
use Rattle.step_local.specs.declared.frames.Stage.{Stage}
use Rattle.step_local.specs.Answers.{replaces}
use Rattle.step_local.specs.Getting.{asked_for, begun_aligned, begun_as, begun_at, begun_get, begun_get_as}
use Rattle.step_local.specs.Getting.{begun_leave, begun_leave_as, begun_look, begun_realloc, getting, getting_as}
use Rattle.step_local.specs.Getting.{heap_begun, is_idle, is_looked_at, refusal_of, reset_begun_as}
use Rattle.step_local.specs.Getting.{served_as}
use Rattle.step_local.specs.Resetting.{heap_on, resetting}
use Rattle.heap_tasks.specs.Laws.{BeginsKeepStages, BeginsNoteNothing, FreshStagesFit}
use Rattle.heap_tasks.specs.Notes.{IsTail, noted, notes_by, notes_of}
use Rattle.heap_tasks.specs.Stages.{IsIdle, IsQuiet, StageFits, StageFitsAt}
use Rattle.heap_tasks.proofs.Staged.{Goes}
use Rattle.heap_tasks.proofs.StagedLarge.{goes-getting}
use Rattle.heap_tasks.proofs.StagedResets.{goes-heap_on}

-- a local at which a call has begun
abbrev Begins : Local → Type 0
Begins next = StageFits next × (notes_of next ≡ [])

either_begun : (b : Bool) (x y : Local) → Begins x → Begins y → Begins (cond b x y)
either_begun true x y one other = one
either_begun false x y one other = other

none_of_none : {ms : List Note} → IsTail ms [] → ms ≡ []
none_of_none IsTail.all = refl

-- a call that makes no step begins at a seat that is idle
is_idle_stage : (stage : Stage) → IsIdle stage → stage ≡ Stage.Idle
is_idle_stage Stage.Idle is = refl
is_idle_stage _ is = absurd is

idle_is_quiet : (stage : Stage) → IsIdle stage → IsQuiet stage
idle_is_quiet Stage.Idle is = tt
idle_is_quiet _ is = absurd is

idle_notes : (l : Local) → IsIdle l.call.stage → notes_of l ≡ []
idle_notes l is = ap (notes_by l.call.request l.call.old l.call.new) (is_idle_stage l.call.stage is)

at_once : (l : Local) → IsIdle l.call.stage → IsQuiet l.call.stage × (notes_of l ≡ [])
at_once l is = (idle_is_quiet l.call.stage is, idle_notes l is)

-- an object is got in no other's place
getting_begins : (l : Local) (served : Served) → replaces l.call.request ≡ false → Begins (getting l served).0
getting_begins l served alone =
    let step : Goes (getting_as l served) (getting l served) = goes-getting l served in (
      step.0,
      none_of_none
          (subst (λ (b : Bool). IsTail (notes_of (getting l served).0) (cond b
          (noted l.call.old ∷ []) [])) alone step.1),
    )

begins-begun_get_as : (l : Local) (wanted : Option Served) (cause : Option NullCause) → IsIdle l.call.stage
    → replaces l.call.request ≡ false → Begins (begun_get_as l wanted cause)
begins-begun_get_as l wanted (Some cause) is alone = at_once l is
begins-begun_get_as l (Some served) None is alone = getting_begins l served alone
begins-begun_get_as l None None is alone = at_once l is

begins-begun_get : (l : Local) (wanted : Option Served) → IsIdle l.call.stage → replaces l.call.request ≡ false
    → Begins (begun_get l wanted)
begins-begun_get l wanted is alone = begins-begun_get_as l wanted (refusal_of l wanted) is alone

begins-begun_look : (l : Local) (request : Request) (place : Place) → IsIdle l.call.stage
    → Begins (begun_look l request place)
begins-begun_look l request place is = either_begun (is_looked_at l place) _ _ (tt, refl) (at_once l is)

begins-begun_leave_as : (l : Local) (what : Leaving)
    → Begins (begun_leave_as (record l { call = record l.call { stage = Stage.Leaving } }) what)
begins-begun_leave_as l Leaving.Nothing = (tt, refl)
begins-begun_leave_as l (Leaving.Cached slab) = (tt, refl)
begins-begun_leave_as l (Leaving.Unused kept) = (tt, refl)
begins-begun_leave_as l (Leaving.Held kept) = (tt, refl)

begins-begun_leave : (l : Local) → Begins (begun_leave l)
begins-begun_leave l = begins-begun_leave_as l (next_to_leave l.heap)

begins-begun_realloc : (l : Local) (request : Request) (place : Option Place) (wanted : Option Served)
    → IsIdle l.call.stage → (place ≡ None → replaces l.call.request ≡ false)
    → Begins (begun_realloc l request place wanted)
begins-begun_realloc l request (Some place) wanted is alone = begins-begun_look l request place is
begins-begun_realloc l request None wanted is alone = begins-begun_get l wanted is (alone refl)

begins-begun_aligned : (l : Local) (request : Request) (place : Option Place) (size alignment : ℕ)
    → IsIdle l.call.stage → (place ≡ None → replaces l.call.request ≡ false)
    → Begins (begun_aligned l request place size alignment)
begins-begun_aligned l request place size alignment is alone = either_begun (is_power_of_two alignment) _ _
    (begins-begun_realloc l request place (served_as size (Some alignment)) is alone) (at_once l is)

begins-begun_at : (l : Local) (request : Request) (place : Option Place) (of_null : Answer) → IsIdle l.call.stage
    → Begins (begun_at l request place of_null)
begins-begun_at l request (Some place) of_null is = begins-begun_look l request place is
begins-begun_at l request None of_null is = at_once l is

begins-begun_as : (l : Local) (request : Request) → IsIdle l.call.stage
    → Begins (begun_as (asked_for l request) request)
begins-begun_as l (Request.Malloc size) is =
    begins-begun_get (asked_for l (Request.Malloc size)) (served_as size None) is refl
begins-begun_as l (Request.Aligned size alignment) is =
    begins-begun_get (asked_for l (Request.Aligned size alignment)) (served_as size (Some alignment)) is refl
begins-begun_as l (Request.Realloc place size) is =
    begins-begun_realloc (asked_for l (Request.Realloc place size)) (Request.Realloc place size) place
    (served_as size None) is (λ none. ap (λ (p : Option Place). replaces (Request.Realloc p size)) none)
begins-begun_as l (Request.AlignedRealloc place size alignment) is =
    begins-begun_aligned (asked_for l (Request.AlignedRealloc place size alignment))
    (Request.AlignedRealloc place size alignment) place size alignment is
    (λ none. ap (λ (p : Option Place). replaces (Request.AlignedRealloc p size alignment)) none)
begins-begun_as l (Request.Free place) is =
    begins-begun_at (asked_for l (Request.Free place)) (Request.Free place) place Answer.False is
begins-begun_as l (Request.Msize place) is =
    begins-begun_at (asked_for l (Request.Msize place)) (Request.Msize place) place (Answer.Size 0) is
begins-begun_as l (Request.Identify place) is =
    begins-begun_at (asked_for l (Request.Identify place)) (Request.Identify place) place Answer.NoPool is
begins-begun_as l Request.Exit is = begins-begun_leave (asked_for l Request.Exit)

heap_on_begins : (l : Local) → Begins (heap_on (resetting l (ResetStage.Heap None)) None).0
heap_on_begins l =
    let l' : Local = resetting l (ResetStage.Heap None) in
    let step : Goes l' (heap_on l' None) = goes-heap_on l' None tt in
    (step.0, none_of_none step.1)

begins-heap_begun : (l : Local) (what : Leaving) → Begins (heap_begun (resetting l (ResetStage.Heap None)) what)
begins-heap_begun l Leaving.Nothing = (tt, refl)
begins-heap_begun l (Leaving.Cached slab) = heap_on_begins l
begins-heap_begun l (Leaving.Unused kept) = heap_on_begins l
begins-heap_begun l (Leaving.Held kept) = heap_on_begins l

begins-reset_begun_as : (l : Local) (reset : Reset) → Begins (reset_begun_as l reset)
begins-reset_begun_as l Reset.Heap = begins-heap_begun l (next_to_leave l.heap)
begins-reset_begun_as l Reset.Pool = (tt, refl)

-- a seat at which a call may begin has noted nothing; one that is refused changes nothing
idle_fits : (at : At) (put : PutFor) (cleanup : Cleanup) (stage : Stage) → is_idle at ≡ true
    → StageFitsAt at put cleanup stage → IsIdle stage
idle_fits At.Idle put cleanup stage is fits = fits
idle_fits _ put cleanup stage is fits = absurd (cc)

abbrev IsBegun : Local → Local → Type 0
IsBegun l next = StageFits next × (notes_of next ≡ notes_of l)

begun_is : (l next : Local) → IsIdle l.call.stage → Begins next → IsBegun l next
begun_is l next is begins = (begins.0, begins.1 ∙ sym (idle_notes l is))

begun_by : (l : Local) (request : Request) (b : Bool) → is_idle l.at ≡ b → StageFits l
    → IsBegun l (cond {A = Local × Result Unit InCall} b
    (begun_as (asked_for l request) request, Ok tt) (l, Err (record { seat = l.seat }))).0
begun_by l request true is fits =
    let idle : IsIdle l.call.stage = idle_fits l.at l.put l.sweep.cleanup l.call.stage is fits in
    begun_is l (begun_as (asked_for l request) request) idle (begins-begun_as l request idle)
begun_by l request false is fits = (fits, refl)

reset_by : (l : Local) (reset : Reset) (b : Bool) → is_idle l.at ≡ b → StageFits l
    → IsBegun l (cond {A = Local × Result Unit InCall} b
    (reset_begun_as l reset, Ok tt) (l, Err (record { seat = l.seat }))).0
reset_by l reset true is fits =
    let idle : IsIdle l.call.stage = idle_fits l.at l.put l.sweep.cleanup l.call.stage is fits in
    begun_is l (reset_begun_as l reset) idle (begins-reset_begun_as l reset)
reset_by l reset false is fits = (fits, refl)

pub begins_keep_stages : BeginsKeepStages
begins_keep_stages l fits = record {
  begins = λ request. (begun_by l request (is_idle l.at) refl fits).0;
  resets = λ reset. (reset_by l reset (is_idle l.at) refl fits).0;
}

pub begins_note_nothing : BeginsNoteNothing
begins_note_nothing l fits = record {
  begins = λ request. (begun_by l request (is_idle l.at) refl fits).1;
  resets = λ reset. (reset_by l reset (is_idle l.at) refl fits).1;
}

pub fresh_stages_fit : FreshStagesFit
fresh_stages_fit k seat = tt
