-- A call that begins, a reset that begins, and a fresh local fit.
use Rattle.std.proofs.Common.{◌≡◌, ℕ, ◌+◌, ◌<◌, Bool, true, false, cond, eqb, leb, Option, Some, None, refl, sym}
use Rattle.std.proofs.Common.{subst, ap, arith, ◌∙◌, ◌&&◌, List, []}
use Rattle.std.proofs.lemmas.List.{length-replicate}
use Rattle.std.specs.Prelude.{Result, Ok, Err}
use Rattle.std.specs.Int.{is_power_of_two}
use Rattle.std.proofs.lemmas.Bool.Decides.{nat_tests}
use Rattle.pool_types.specs.Geometry.{class_count}
use Rattle.pool_types.specs.Limits.{region_numbers}
use Rattle.pool_types.specs.declared.values.Answer.{Answer}
use Rattle.pool_types.specs.declared.values.InCall.{InCall}
use Rattle.pool_types.specs.declared.values.NullCause.{NullCause}
use Rattle.pool_types.specs.declared.values.Place.{Place}
use Rattle.pool_types.specs.declared.values.Request.{Request}
use Rattle.pool_words.specs.declared.words.Key.{Key}
use Rattle.heap_slabs.specs.declared.heap.Leaving.{Leaving}
use Rattle.heap_slabs.specs.Cached.{high_mark}
use Rattle.heap_slabs.specs.Heaps.{most_slabs, next_to_leave}
use Rattle.heap_slabs.proofs.Keeping.{kept_none}
use Rattle.step_local.specs.declared.frames.At.{At}
use Rattle.step_local.specs.declared.frames.Local.{Local}
use Rattle.step_local.specs.declared.frames.Reset.{Reset}
use Rattle.step_local.specs.declared.frames.ResetStage.{ResetStage}
use Rattle.step_local.specs.declared.frames.Served.{Served}
use Rattle.step_local.specs.declared.frames.Stage.{Stage}
use Rattle.step_local.specs.Answers.{replaces}
use Rattle.step_local.specs.Frames.{most_released, no_object}
use Rattle.step_local.specs.Getting.{asked_for, begun, begun_as, begun_at, begun_get, begun_get_as}
use Rattle.step_local.specs.Getting.{begun_leave, begun_leave_as, begun_look, heap_begun, is_idle}
use Rattle.step_local.specs.Getting.{is_looked_at, refusal_of, reset_begun, reset_begun_as, served_as}
use Rattle.step_local.specs.Resetting.{resetting}
use Rattle.step_numbers.proofs.CallerLemmas.{made_fits, turns_keep_numbers}
use Rattle.step_fits.specs.Frames.{CallFits, Frames, place_in, plain_rooms, rooms_at}
use Rattle.step_fits.specs.Frames.{wanted_of}
use Rattle.step_fits.specs.Laws.{BeginsKeepFits, FreshLocalsFit, ResetsKeepFits}
use Rattle.step_fits.specs.Positions.{AtFits, IsReady, LocalFits}
use Rattle.step_fits.proofs.Framed.{other_call, other_class}
use Rattle.step_fits.proofs.Objects.{fits-getting, gets_served}
use Rattle.step_fits.proofs.Resets.{fits-heap_on}
use Rattle.step_fits.proofs.Rolls.{empty-room}
use Rattle.step_fits.proofs.Small.{GivesNext, fits-leaving_as, gives_next}
use Rattle.step_fits.proofs.Wanted.{WantedFits, wanted_fits}

-- what a begin leaves fits
abbrev FitsBegun : Key → ℕ → Bool → Local → Type 0
FitsBegun k seat sure next = Frames k seat (rooms_at next.at) next × AtFits sure next next.at

either_begun : (sure : Bool) {k : Key} {seat : ℕ} (b : Bool) (x y : Local)
    → (b ≡ true → FitsBegun k seat sure x) → FitsBegun k seat sure y
    → FitsBegun k seat sure (cond b x y)
either_begun sure true x y one other = one refl
either_begun sure false x y one other = other

idle_ready : (l : Local) → l.call.stage ≡ Stage.Idle → IsReady l.call.stage
idle_ready l idle = subst IsReady (sym idle) tt

both_true : (a b : Bool) → (a && b) ≡ true → (a ≡ true) × (b ≡ true)
both_true true true is = (refl, refl)
both_true true false is = absurd (cc)
both_true false b is = absurd (cc)

never : false ≡ true → ⊥
never is = absurd (cc)

module _ (sure : Bool) {k : Key} {seat : ℕ} where
  fits-ready : (l : Local) (answer : Answer) → Frames k seat plain_rooms l → IsReady l.call.stage
      → FitsBegun k seat sure (record l { at = At.Ready answer })
  fits-ready l answer frames is = (frames, is)

  fits-begun_get_as : (l : Local) (wanted : Option Served) (cause : Option NullCause) → Frames k seat plain_rooms l
      → l.call.stage ≡ Stage.Idle → wanted_of l.call.request ≡ wanted → WantedFits wanted → refusal_of l wanted ≡ cause
      → (replaces l.call.request ≡ true → ⊥) → FitsBegun k seat sure (begun_get_as l wanted cause)
  fits-begun_get_as l wanted (Some cause) frames idle is fits e new = (frames, idle_ready l idle)
  fits-begun_get_as l (Some served) None frames idle is fits e new =
      fits-getting sure l served frames (gets_served sure l served frames is fits e
      (λ (old : replaces l.call.request ≡ true). absurd (new old)))
  fits-begun_get_as l None None frames idle is fits e new = (frames, idle_ready l idle)

  fits-begun_get : (l : Local) (size : ℕ) (alignment : Option ℕ) → Frames k seat plain_rooms l
      → l.call.stage ≡ Stage.Idle → wanted_of l.call.request ≡ served_as size alignment
      → (replaces l.call.request ≡ true → ⊥) → FitsBegun k seat sure (begun_get l (served_as size alignment))
  fits-begun_get l size alignment frames idle is new = fits-begun_get_as l (served_as size alignment)
      (refusal_of l (served_as size alignment)) frames idle is (wanted_fits size alignment) refl new

  fits-begun_look : (l : Local) (request : Request) (place : Place) → Frames k seat plain_rooms l
      → l.call.stage ≡ Stage.Idle → place_in l.call.request ≡ Some place
      → FitsBegun k seat sure (begun_look l request place)
  fits-begun_look l request place frames idle asked = either_begun sure (is_looked_at l place) _ _
      (λ (both : is_looked_at l place ≡ true).
      let parts = both_true (eqb place.pool l.key.pool) (leb (place.region + 1) region_numbers) both in
      let pool : place.pool ≡ l.key.pool = let first = parts.0 in grind (arith, nat_tests) in
      let below : place.region < region_numbers = let second = parts.1 in grind (arith, nat_tests) in (
        other_call frames l.call.request (record no_object { number = place.region; offset = place.offset })
            l.call.served Stage.Looking (
              place,
              record {
                asked = asked;
                pool = pool ∙ ap (λ (x : Key). x.pool) frames.key;
                number' = refl;
                offset' = refl;
                below = below;
              },
            ),
        refl,
      ))
      (frames, idle_ready l idle)

  fits-begun_leave_as : (l : Local) (what : Leaving) → Frames k seat plain_rooms l → l.call.stage ≡ Stage.Leaving
      → GivesNext l what → FitsBegun k seat sure (begun_leave_as l what)
  fits-begun_leave_as l Leaving.Nothing frames is gives = (frames, subst IsReady (sym is) tt)
  fits-begun_leave_as l (Leaving.Cached slab) frames is gives =
      fits-leaving_as sure l (Leaving.Cached slab) frames is gives
  fits-begun_leave_as l (Leaving.Unused kept) frames is gives =
      fits-leaving_as sure l (Leaving.Unused kept) frames is gives
  fits-begun_leave_as l (Leaving.Held kept) frames is gives =
      fits-leaving_as sure l (Leaving.Held kept) frames is gives

  fits-begun_leave : (l : Local) → Frames k seat plain_rooms l → l.call.request ≡ Request.Exit
      → FitsBegun k seat sure (begun_leave l)
  fits-begun_leave l frames exits =
      let next : Local = record l { call = record l.call { stage = Stage.Leaving } } in
      fits-begun_leave_as next (next_to_leave next.heap)
      (other_call frames l.call.request l.call.old l.call.served Stage.Leaving exits) refl
      (gives_next k next frames.slabs)

  fits-begun_at : (l : Local) (request : Request) (place : Option Place) (of_null : Answer)
      → Frames k seat plain_rooms l → l.call.stage ≡ Stage.Idle → place_in l.call.request ≡ place
      → FitsBegun k seat sure (begun_at l request place of_null)
  fits-begun_at l request (Some place) of_null frames idle asked = fits-begun_look l request place frames idle asked
  fits-begun_at l request None of_null frames idle asked = (frames, idle_ready l idle)

  fits-begun_as : (l : Local) (request : Request) → Frames k seat plain_rooms l → l.call.stage ≡ Stage.Idle
      → FitsBegun k seat sure (begun_as (asked_for l request) request)
  fits-begun_as l request frames idle = by request
    where
      framed : (request : Request) → Frames k seat plain_rooms (asked_for l request)
      framed request = other_call frames request l.call.old l.call.served l.call.stage
          (subst (CallFits k request l.call.old l.call.served) (sym idle) tt)

      by : (request : Request) → FitsBegun k seat sure (begun_as (asked_for l request) request)
      by (Request.Malloc size) =
          fits-begun_get (asked_for l (Request.Malloc size)) size None (framed (Request.Malloc size)) idle refl never
      by (Request.Aligned size alignment) =
          let request : Request = Request.Aligned size alignment in
          fits-begun_get (asked_for l (Request.Aligned size alignment)) size (Some alignment)
          (framed (Request.Aligned size alignment)) idle refl never
      by (Request.Realloc (Some place) size) =
          fits-begun_look (asked_for l (Request.Realloc (Some place) size)) (Request.Realloc (Some place) size) place
          (framed (Request.Realloc (Some place) size)) idle refl
      by (Request.Realloc None size) =
          fits-begun_get (asked_for l (Request.Realloc None size)) size None (framed (Request.Realloc None size)) idle
          refl never
      by (Request.AlignedRealloc (Some place) size alignment) = either_begun sure (is_power_of_two alignment) _ _
          (λ _. fits-begun_look (asked_for l (Request.AlignedRealloc (Some place) size alignment))
          (Request.AlignedRealloc (Some place) size alignment) place
          (framed (Request.AlignedRealloc (Some place) size alignment)) idle refl)
          (framed (Request.AlignedRealloc (Some place) size alignment), idle_ready l idle)
      by (Request.AlignedRealloc None size alignment) = either_begun sure (is_power_of_two alignment) _ _
          (λ _. fits-begun_get (asked_for l (Request.AlignedRealloc None size alignment)) size (Some alignment)
          (framed (Request.AlignedRealloc None size alignment)) idle refl never)
          (framed (Request.AlignedRealloc None size alignment), idle_ready l idle)
      by (Request.Free place) = fits-begun_at (asked_for l (Request.Free place)) (Request.Free place) place
          Answer.False (framed (Request.Free place)) idle refl
      by (Request.Msize place) = fits-begun_at (asked_for l (Request.Msize place)) (Request.Msize place) place
          (Answer.Size 0) (framed (Request.Msize place)) idle refl
      by (Request.Identify place) = fits-begun_at (asked_for l (Request.Identify place)) (Request.Identify place) place
          Answer.NoPool (framed (Request.Identify place)) idle refl
      by Request.Exit = fits-begun_leave (asked_for l Request.Exit) (framed Request.Exit) refl

  -- resets
  fits-heap_begun : (l : Local) (what : Leaving) → Frames k seat plain_rooms l
      → l.call.stage ≡ Stage.Resetting (ResetStage.Heap None) → FitsBegun k seat sure (heap_begun l what)
  fits-heap_begun l Leaving.Nothing frames is = (frames, subst IsReady (sym is) tt)
  fits-heap_begun l (Leaving.Cached slab) frames is = fits-heap_on sure l None frames is
  fits-heap_begun l (Leaving.Unused kept) frames is = fits-heap_on sure l None frames is
  fits-heap_begun l (Leaving.Held kept) frames is = fits-heap_on sure l None frames is

  fits-reset_begun_as : (l : Local) (reset : Reset) → Frames k seat plain_rooms l
      → FitsBegun k seat sure (reset_begun_as l reset)
  fits-reset_begun_as l Reset.Heap frames =
      fits-heap_begun (resetting l (ResetStage.Heap None)) (next_to_leave l.heap)
      (other_call frames l.call.request l.call.old l.call.served (Stage.Resetting (ResetStage.Heap None)) tt) refl
  fits-reset_begun_as l Reset.Pool frames = (
    other_class
        (other_call frames l.call.request l.call.old l.call.served (Stage.Resetting (ResetStage.Orphans None)) tt) 0
        (omega arith),
    (tt, tt),
  )

-- a local is idle where a call begins
record IsIdle (k : Key) (seat : ℕ) (l : Local) : Type 0 where
  frames : Frames k seat plain_rooms l
  idle : l.call.stage ≡ Stage.Idle

idle_at : (k : Key) (seat : ℕ) (sure : Bool) (l : Local) (at : At) → is_idle at ≡ true → Frames k seat (rooms_at at) l
    → AtFits sure l at → IsIdle k seat l
idle_at k seat sure l At.Idle e frames is = record { frames = frames; idle = is }
idle_at k seat sure l _ e frames is = absurd (cc)

fits-begun : (k : Key) (seat : ℕ) (sure : Bool) (l : Local) (request : Request) → LocalFits k seat sure l
    → FitsBegun k seat sure (begun l request).0
fits-begun k seat sure l request fits = by (is_idle l.at) refl
  where
    by : (b : Bool) → is_idle l.at ≡ b → FitsBegun k seat sure (cond {A = Local × Result Unit InCall} b
        (begun_as (asked_for l request) request, Ok tt) (l, Err (record { seat = l.seat }))).0
    by true e = let idle = idle_at k seat sure l l.at e fits.frames fits.place in
        fits-begun_as sure l request idle.frames idle.idle
    by false e = (fits.frames, fits.place)

fits-reset_begun : (k : Key) (seat : ℕ) (sure : Bool) (l : Local) (reset : Reset) → LocalFits k seat sure l
    → FitsBegun k seat sure (reset_begun l reset).0
fits-reset_begun k seat sure l reset fits = by (is_idle l.at) refl
  where
    by : (b : Bool) → is_idle l.at ≡ b → FitsBegun k seat sure (cond {A = Local × Result Unit InCall} b
        (reset_begun_as l reset, Ok tt) (l, Err (record { seat = l.seat }))).0
    by true e = let idle = idle_at k seat sure l l.at e fits.frames fits.place in
        fits-reset_begun_as sure l reset idle.frames
    by false e = (fits.frames, fits.place)

pub begins_keep_fits : BeginsKeepFits
begins_keep_fits k seat sure l request fits =
    let next = fits-begun k seat sure l request fits in record {
      frames = next.0;
      place = next.1;
      numbers = (turns_keep_numbers l fits.numbers).begins request;
    }

pub resets_keep_fits : ResetsKeepFits
resets_keep_fits k seat sure l reset fits =
    let next = fits-reset_begun k seat sure l reset fits in record {
      frames = next.0;
      place = next.1;
      numbers = (turns_keep_numbers l fits.numbers).resets reset;
    }

pub fresh_locals_fit : FreshLocalsFit
fresh_locals_fit k seat sure fits = record {
  frames = record {
    key = refl;
    seat' = refl;
    slabs = record {
      are = kept_none k.span (let span = fits.span in omega arith);
      room = refl;
      lists = length-replicate {A = List ℕ} class_count [];
    };
    cached = empty-room (high_mark + 1);
    few = omega arith;
    spares = empty-room (most_slabs k.span);
    none = λ _. refl;
    released = empty-room most_released;
    call = tt;
    class = omega arith;
    bin' = omega arith;
  };
  place = refl;
  numbers = made_fits k seat;
}
