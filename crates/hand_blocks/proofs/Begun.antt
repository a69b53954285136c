-- A call that begins, or a reset, begins with nothing in hand.
use Rattle.std.proofs.Common.{◌≡◌, ℕ, Bool, true, false, cond, [], refl, inl, inr, ap, subst, sym}
use Rattle.std.specs.Prelude.{Option, Some, None, Result, Ok, Err}
use Rattle.heap_slabs.specs.declared.heap.Leaving.{Leaving}
use Rattle.heap_slabs.specs.Heaps.{next_to_leave}
use Rattle.std.specs.Int.{is_power_of_two}
use Rattle.pool_types.specs.declared.values.Answer.{Answer}
use Rattle.pool_types.specs.declared.values.InCall.{InCall}
use Rattle.pool_types.specs.declared.values.NullCause.{NullCause}
use Rattle.pool_types.specs.declared.values.Place.{Place}
use Rattle.pool_types.specs.declared.values.Request.{Request}
use Rattle.step_local.specs.declared.frames.At.{At}
use Rattle.step_local.specs.declared.frames.Local.{Local}
use Rattle.step_local.specs.declared.frames.Served.{Served}
use Rattle.step_local.specs.declared.frames.Stage.{Stage}
use Rattle.step_local.specs.Getting.{served_as, refusal_of, begun_get_as, begun_get, is_looked_at}
use Rattle.step_local.specs.Getting.{begun_look, begun_leave_as, begun_leave, begun_realloc, begun_aligned, begun_at}
use Rattle.step_local.specs.Getting.{begun_as, asked_for, is_idle, begun, heap_begun, reset_begun, reset_begun_as}
use Rattle.step_local.specs.Resetting.{resetting}
use Rattle.step_local.specs.declared.frames.Reset.{Reset}
use Rattle.step_local.specs.declared.frames.ResetStage.{ResetStage}
use Rattle.hand_blocks.specs.Fits.{IsLeaving, IsStripping}
use Rattle.hand_blocks.specs.Hands.{hands_at, hands_of}
use Rattle.hand_blocks.specs.Laws.{BeginsLeaveHands, BeginsOrStays, FreshHandsAreEmpty, IdleHandsAreEmpty}
use Rattle.hand_blocks.specs.Laws.{IsEmptyBegin}
use Rattle.hand_blocks.proofs.Lands.{Lands}
use Rattle.hand_blocks.proofs.Large.{lands-getting}
use Rattle.hand_blocks.proofs.Resets.{lands-heap_on}
use Rattle.hand_blocks.proofs.Served.{IsGood, good_served}
use Rattle.hand_blocks.proofs.Small.{lands-leaving_as}

abbrev IsEmpty : Local → Type 0
IsEmpty l = Lands l []

either_begun : (b : Bool) (x y : Local) → IsEmpty x → IsEmpty y → IsEmpty (cond b x y)
either_begun true x y one other = one
either_begun false x y one other = other

empty-begun_get_as : (l : Local) (wanted : Option Served) (cause : Option NullCause) → IsGood wanted
    → IsEmpty (begun_get_as l wanted cause)
empty-begun_get_as l wanted (Some cause) good = record { has = refl; fits = tt }
empty-begun_get_as l (Some served) None good = lands-getting l served good
empty-begun_get_as l None None good = record { has = refl; fits = tt }

empty-begun_get : (l : Local) (size : ℕ) (alignment : Option ℕ) → IsEmpty (begun_get l (served_as size alignment))
empty-begun_get l size alignment = empty-begun_get_as l (served_as size alignment)
    (refusal_of l (served_as size alignment)) (good_served size alignment)

empty-begun_look : (l : Local) (request : Request) (place : Place) → IsEmpty (begun_look l request place)
empty-begun_look l request place = either_begun (is_looked_at l place) _ _
    (record { has = refl; fits = tt }) (record { has = refl; fits = tt })

empty-begun_leave_as : (l : Local) (what : Leaving) → l.call.stage ≡ Stage.Leaving → IsEmpty (begun_leave_as l what)
empty-begun_leave_as l Leaving.Nothing is = record { has = refl; fits = tt }
empty-begun_leave_as l (Leaving.Cached slab) is = lands-leaving_as l (Leaving.Cached slab)
    (subst IsLeaving (sym is) tt)
empty-begun_leave_as l (Leaving.Unused kept) is = lands-leaving_as l (Leaving.Unused kept)
    (subst IsLeaving (sym is) tt)
empty-begun_leave_as l (Leaving.Held kept) is = lands-leaving_as l (Leaving.Held kept) (subst IsLeaving (sym is) tt)

empty-begun_leave : (l : Local) → IsEmpty (begun_leave l)
empty-begun_leave l =
    let l' : Local = record l { call = record l.call { stage = Stage.Leaving } } in
    empty-begun_leave_as l' (next_to_leave l'.heap) refl

empty-begun_realloc : (l : Local) (request : Request) (place : Option Place) (size : ℕ) (alignment : Option ℕ)
    → IsEmpty (begun_realloc l request place (served_as size alignment))
empty-begun_realloc l request (Some place) size alignment = empty-begun_look l request place
empty-begun_realloc l request None size alignment = empty-begun_get l size alignment

empty-begun_aligned : (l : Local) (request : Request) (place : Option Place) (size alignment : ℕ)
    → IsEmpty (begun_aligned l request place size alignment)
empty-begun_aligned l request place size alignment = either_begun (is_power_of_two alignment) _ _
    (empty-begun_realloc l request place size (Some alignment)) (record { has = refl; fits = tt })

empty-begun_at : (l : Local) (request : Request) (place : Option Place) (of_null : Answer)
    → IsEmpty (begun_at l request place of_null)
empty-begun_at l request (Some place) of_null = empty-begun_look l request place
empty-begun_at l request None of_null = record { has = refl; fits = tt }

empty-begun_as : (l : Local) (request : Request) → IsEmpty (begun_as l request)
empty-begun_as l (Request.Malloc size) = empty-begun_get l size None
empty-begun_as l (Request.Aligned size alignment) = empty-begun_get l size (Some alignment)
empty-begun_as l (Request.Realloc place size) =
    empty-begun_realloc l (Request.Realloc place size) place size None
empty-begun_as l (Request.AlignedRealloc place size alignment) =
    empty-begun_aligned l (Request.AlignedRealloc place size alignment) place size alignment
empty-begun_as l (Request.Free place) = empty-begun_at l (Request.Free place) place Answer.False
empty-begun_as l (Request.Msize place) = empty-begun_at l (Request.Msize place) place (Answer.Size 0)
empty-begun_as l (Request.Identify place) = empty-begun_at l (Request.Identify place) place Answer.NoPool
empty-begun_as l Request.Exit = empty-begun_leave l

-- a call begins where none is begun
idle_empty : (l : Local) (at : At) → is_idle at ≡ true → hands_at l at ≡ []
idle_empty l At.Idle e = refl
idle_empty l _ e = absurd (cc)

begins_empty : (l next : Local) → is_idle l.at ≡ true → IsEmpty next → IsEmptyBegin l next
begins_empty l next idle is = record { before = idle_empty l l.at idle; after = is.has; fits = is.fits }

begun_empty : (l : Local) (request : Request) → BeginsOrStays l (begun l request).0
begun_empty l request = by (is_idle l.at) refl
  where
    by : (b : Bool) → is_idle l.at ≡ b → BeginsOrStays l (cond {A = Local × Result Unit InCall} b
        (begun_as (asked_for l request) request, Ok tt) (l, Err (record { seat = l.seat }))).0
    by true e = inl (begins_empty l (begun_as (asked_for l request) request) e
        (empty-begun_as (asked_for l request) request))
    by false e = inr refl

empty-heap_begun : (l : Local) (what : Leaving) → IsStripping l.call.stage → IsEmpty (heap_begun l what)
empty-heap_begun l Leaving.Nothing is = record { has = refl; fits = tt }
empty-heap_begun l (Leaving.Cached slab) is = lands-heap_on l None is
empty-heap_begun l (Leaving.Unused kept) is = lands-heap_on l None is
empty-heap_begun l (Leaving.Held kept) is = lands-heap_on l None is

empty-reset_begun_as : (l : Local) (reset : Reset) → IsEmpty (reset_begun_as l reset)
empty-reset_begun_as l Reset.Heap =
    empty-heap_begun (resetting l (ResetStage.Heap None)) (next_to_leave l.heap) tt
empty-reset_begun_as l Reset.Pool = record { has = refl; fits = tt }

reset_empty : (l : Local) (reset : Reset) → BeginsOrStays l (reset_begun l reset).0
reset_empty l reset = by (is_idle l.at) refl
  where
    by : (b : Bool) → is_idle l.at ≡ b → BeginsOrStays l (cond {A = Local × Result Unit InCall} b
        (reset_begun_as l reset, Ok tt) (l, Err (record { seat = l.seat }))).0
    by true e = inl (begins_empty l (reset_begun_as l reset) e (empty-reset_begun_as l reset))
    by false e = inr refl

pub begins_leave_hands : BeginsLeaveHands
begins_leave_hands l = record { begins = begun_empty l; resets = reset_empty l }

pub idle_hands_are_empty : IdleHandsAreEmpty
idle_hands_are_empty l = record { idle = λ is. idle_at is; answers = λ answer. refl }
  where
    idle_at : l.at ≡ At.Idle → hands_of l ≡ []
    idle_at is = ap (hands_at l) is

pub fresh_hands_are_empty : FreshHandsAreEmpty
fresh_hands_are_empty k seat = record { empty = refl; fits = tt }
