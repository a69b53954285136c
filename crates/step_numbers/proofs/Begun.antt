-- A call that begins comes to grant only where a number is left; so does no reset.
use Rattle.std.proofs.Common.{◌≡◌, ◌∙◌, ℕ, Bool, true, false, cond, refl, sym, ap}
use Rattle.std.specs.Prelude.{Option, Some, None, Result, Ok, Err}
use Rattle.heap_slabs.specs.declared.heap.Leaving.{Leaving}
use Rattle.heap_slabs.specs.Heaps.{next_to_leave}
use Rattle.std.specs.Int.{is_power_of_two}
use Rattle.pool_types.specs.declared.values.InCall.{InCall}
use Rattle.pool_types.specs.declared.values.NullCause.{NullCause}
use Rattle.pool_types.specs.declared.values.Place.{Place}
use Rattle.pool_types.specs.declared.values.Request.{Request}
use Rattle.step_local.specs.declared.frames.Local.{Local}
use Rattle.step_local.specs.declared.frames.Served.{Served}
use Rattle.step_local.specs.declared.frames.Stage.{Stage}
use Rattle.step_local.specs.Answers.{replaces}
use Rattle.step_local.specs.Getting.{served_as, refusal_of, begun_get_as, begun_get, is_looked_at}
use Rattle.step_local.specs.Getting.{begun_look, begun_leave_as, begun_leave, begun_realloc, begun_aligned}
use Rattle.step_local.specs.Getting.{begun_as, asked_for, is_idle, begun, heap_begun, reset_begun, reset_begun_as}
use Rattle.step_local.specs.Resetting.{resetting}
use Rattle.step_local.specs.declared.frames.Reset.{Reset}
use Rattle.step_local.specs.declared.frames.ResetStage.{ResetStage}
use Rattle.step_numbers.specs.Positions.{is_getting, keeps_heap, CanGrant, FitsAt}
use Rattle.step_numbers.proofs.Kept.{never}
use Rattle.step_numbers.proofs.Large.{fits-getting, number_left}
use Rattle.step_numbers.proofs.Resets.{fits-heap_on, heap_resets}

abbrev pub Begins : ℕ → Local → Type 0
Begins n l = (l.last ≡ n) × FitsAt l l.at

either_begun : {n : ℕ} (b : Bool) (x y : Local) → Begins n x → Begins n y → Begins n (cond b x y)
either_begun true x y one other = one
either_begun false x y one other = other

begins-get_as : (l : Local) (wanted : Option Served) (cause : Option NullCause) → (cause ≡ None → CanGrant l)
    → Begins l.last (begun_get_as l wanted cause)
begins-get_as l wanted (Some cause) can = (refl, tt)
begins-get_as l (Some served) None can = fits-getting l served (can refl)
begins-get_as l None None can = (refl, tt)

-- what is asked replaces no object
begins-get : (l : Local) (wanted : Option Served) → replaces l.call.request ≡ false
    → Begins l.last (begun_get l wanted)
begins-get l wanted none = begins-get_as l wanted (refusal_of l wanted) (λ free. record {
  left = number_left l wanted free;
  held = λ e. never (sym none ∙ e);
})

begins-look : (l : Local) (request : Request) (place : Place) → Begins l.last (begun_look l request place)
begins-look l request place = either_begun (is_looked_at l place) _ _ (refl, tt) (refl, tt)

begins-leave_as : (l : Local) (what : Leaving) → l.call.stage ≡ Stage.Leaving → Begins l.last (begun_leave_as l what)
begins-leave_as l Leaving.Nothing is = (refl, tt)
begins-leave_as l (Leaving.Cached slab) is = (refl, λ e. never (sym (ap keeps_heap is) ∙ e))
begins-leave_as l (Leaving.Unused kept) is = (refl, λ e. never (sym (ap is_getting is) ∙ e))
begins-leave_as l (Leaving.Held kept) is = (refl, λ e. never (sym (ap keeps_heap is) ∙ e))

begins-leave : (l : Local) → Begins l.last (begun_leave l)
begins-leave l =
    let l' : Local = record l { call = record l.call { stage = Stage.Leaving } } in
    begins-leave_as l' (next_to_leave l'.heap) refl

begins-aligned : (l : Local) (request : Request) (place : Option Place) (size alignment : ℕ)
    → Begins l.last (begun_realloc l request place (served_as size (Some alignment)))
    → Begins l.last (begun_aligned l request place size alignment)
begins-aligned l request place size alignment begins =
    either_begun (is_power_of_two alignment) _ _ begins (refl, tt)

begins-as : (l : Local) (request : Request) → Begins l.last (begun_as (asked_for l request) request)
begins-as l (Request.Malloc size) = begins-get (asked_for l (Request.Malloc size)) (served_as size None) refl
begins-as l (Request.Aligned size alignment) =
    begins-get (asked_for l (Request.Aligned size alignment)) (served_as size (Some alignment)) refl
begins-as l (Request.Realloc (Some place) size) =
    let request = Request.Realloc (Some place) size in begins-look (asked_for l request) request place
begins-as l (Request.Realloc None size) =
    begins-get (asked_for l (Request.Realloc None size)) (served_as size None) refl
begins-as l (Request.AlignedRealloc (Some place) size alignment) =
    let request = Request.AlignedRealloc (Some place) size alignment in
    let l' = asked_for l request in
    begins-aligned l' request (Some place) size alignment (begins-look l' request place)
begins-as l (Request.AlignedRealloc None size alignment) =
    let request = Request.AlignedRealloc None size alignment in
    let l' = asked_for l request in
    begins-aligned l' request None size alignment (begins-get l' (served_as size (Some alignment)) refl)
begins-as l (Request.Free (Some place)) =
    begins-look (asked_for l (Request.Free (Some place))) (Request.Free (Some place)) place
begins-as l (Request.Free None) = (refl, tt)
begins-as l (Request.Msize (Some place)) =
    begins-look (asked_for l (Request.Msize (Some place))) (Request.Msize (Some place)) place
begins-as l (Request.Msize None) = (refl, tt)
begins-as l (Request.Identify (Some place)) =
    begins-look (asked_for l (Request.Identify (Some place))) (Request.Identify (Some place)) place
begins-as l (Request.Identify None) = (refl, tt)
begins-as l Request.Exit = begins-leave (asked_for l Request.Exit)

pub fits_begun : (l : Local) (request : Request) → FitsAt l l.at → Begins l.last (begun l request).0
fits_begun l request fits = by (is_idle l.at)
  where
    by : (b : Bool) → Begins l.last (cond {A = Local × Result Unit InCall} b
        (begun_as (asked_for l request) request, Ok tt) (l, Err (record { seat = l.seat }))).0
    by true = begins-as l request
    by false = (refl, fits)

begins-heap : (l : Local) (what : Leaving) (stage : ResetStage) → l.call.stage ≡ Stage.Resetting stage
    → Begins l.last (heap_begun l what)
begins-heap l Leaving.Nothing stage is = (refl, tt)
begins-heap l (Leaving.Cached slab) stage is = fits-heap_on l None (heap_resets l stage is)
begins-heap l (Leaving.Unused kept) stage is = fits-heap_on l None (heap_resets l stage is)
begins-heap l (Leaving.Held kept) stage is = fits-heap_on l None (heap_resets l stage is)

begins-reset : (l : Local) (reset : Reset) → Begins l.last (reset_begun_as l reset)
begins-reset l Reset.Heap =
    begins-heap (resetting l (ResetStage.Heap None)) (next_to_leave l.heap) (ResetStage.Heap None) refl
begins-reset l Reset.Pool = (refl, never)

pub fits_reset_begun : (l : Local) (reset : Reset) → FitsAt l l.at → Begins l.last (reset_begun l reset).0
fits_reset_begun l reset fits = by (is_idle l.at)
  where
    by : (b : Bool) → Begins l.last (cond {A = Local × Result Unit InCall} b
        (reset_begun_as l reset, Ok tt) (l, Err (record { seat = l.seat }))).0
    by true = begins-reset l reset
    by false = (refl, fits)
