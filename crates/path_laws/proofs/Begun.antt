-- A call that begins owes nothing.
use Rattle.std.proofs.Common.{◌≡◌, ◌≢◌, ℕ, Bool, true, false, cond, eqb, [], refl, sym, subst, ◌∙◌, ⊎_elim}
use Rattle.std.specs.Prelude.{Option, Some, None, Result, Ok, Err, ◌&&◌}
use Rattle.std.specs.Int.{is_power_of_two}
use Rattle.std.proofs.lemmas.Bool.Decides.{eqb_tells}
use Rattle.heap_slabs.specs.Heaps.{next_to_leave}
use Rattle.heap_slabs.specs.Rolls.{newest_of}
use Rattle.heap_slabs.specs.Slabs.{first_of_class}
use Rattle.heap_slabs.specs.declared.heap.Leaving.{Leaving}
use Rattle.heap_slabs.specs.declared.records.HeapSlab.{HeapSlab}
use Rattle.heap_slabs.specs.declared.slabs.Wanted.{Wanted}
use Rattle.pool_types.specs.declared.values.Answer.{Answer}
use Rattle.pool_types.specs.declared.values.Found.{Found}
use Rattle.pool_types.specs.declared.values.InCall.{InCall}
use Rattle.pool_types.specs.declared.values.NullCause.{NullCause}
use Rattle.pool_types.specs.declared.values.Place.{Place}
use Rattle.pool_types.specs.declared.values.Request.{Request}
use Rattle.pool_types.specs.declared.values.Turn.{Turn}
use Rattle.pool_words.specs.declared.words.Key.{Key}
use Rattle.step_local.specs.Answers.{not_held_as}
use Rattle.step_local.specs.Getting.{asked_for, begun, begun_as, begun_get, begun_get_as}
use Rattle.step_local.specs.Getting.{begun_leave_as, begun_look, begun_realloc, getting, getting_as}
use Rattle.step_local.specs.Getting.{is_idle, is_looked_at, looking_at, ready, refusal_of, served_as}
use Rattle.step_local.specs.Slabs.{cached_or_asked, found_slab, looking_on}
use Rattle.step_local.specs.declared.frames.At.{At}
use Rattle.step_local.specs.declared.frames.Local.{Local}
use Rattle.step_local.specs.declared.frames.Served.{Served}
use Rattle.step_local.specs.declared.frames.Stage.{Stage}
use Rattle.step_local.specs.declared.frames.Tried.{Tried}
use Rattle.path_laws.specs.Pays.{BeginsBy, Pays, named_by}
use Rattle.path_laws.proofs.Fits.{SettlesBy, names, owing_of}
use Rattle.path_laws.proofs.Objects.{is_other, other_refusal, settles-getting}
use Rattle.path_laws.proofs.Paying.{not_held_as_pays, null_pays}

-- a call that begins: the request alone decides it, or it goes on and owes nothing
pub data Starts (k : Key) (r : Request) (l : Local) : Type 0 where
  is_decided : (answer : Answer) → l.at ≡ At.Ready answer → Pays k r answer [] [] → Starts k r l
  owes_nothing : (number offset : ℕ) → owing_of l ≡ (number, offset, [], [], true)
      → BeginsBy k (named_by r) number offset → Starts k r l

stepped-cached_or_asked : (l : Local) (one : Option ℕ) → (cached_or_asked l one).1 ≡ Turn.Stepped
stepped-cached_or_asked l (Some slab) = refl
stepped-cached_or_asked l None = refl

stepped-looking_on : (l : Local) (class : ℕ) (tried : Tried) → (looking_on l class tried).1 ≡ Turn.Stepped
stepped-looking_on l class Tried.Nothing = refl
stepped-looking_on l class Tried.Mailbox = refl
stepped-looking_on l class Tried.Orphans = stepped-cached_or_asked l (newest_of l.heap.cached)

stepped-found_slab : (l : Local) (class : ℕ) (found : Option HeapSlab) → (found_slab l class found).1 ≡ Turn.Stepped
stepped-found_slab l class (Some kept) = refl
stepped-found_slab l class None = stepped-looking_on l class l.call.tried

stepped-getting : (l : Local) (served : Served) → (getting l served).1 ≡ Turn.Stepped
stepped-getting l (Served.Small class) =
    let l' : Local = getting_as l (Served.Small class) in
    stepped-found_slab l' class (first_of_class Wanted.WithObject l'.heap.slabs class)
stepped-getting l (Served.Large granules alignment) = refl

starts-getting : (l : Local) (r : Request) (served : Served)
    → BeginsBy l.key (named_by r) l.call.old.number l.call.old.offset
    → Starts l.key r (getting (asked_for l r) served).0
starts-getting l r served begins =
    let l' : Local = asked_for l r in
    owes_nothing l.call.old.number l.call.old.offset
    (subst (SettlesBy l.key r l.call.old.number l.call.old.offset [] [] (getting l' served).0)
    (stepped-getting l' served) (settles-getting l' served)) begins

starts-get_as : (l : Local) (r : Request) (wanted : Option Served) (cause : Option NullCause) → is_other cause ≡ true
    → BeginsBy l.key (named_by r) l.call.old.number l.call.old.offset
    → Starts l.key r (begun_get_as (asked_for l r) wanted cause)
starts-get_as l r wanted (Some cause) other begins =
    is_decided (Answer.Null cause) refl (null_pays cause l.key r [] [] other (refl, refl))
starts-get_as l r (Some served) None other begins = starts-getting l r served begins
starts-get_as l r None None other begins = is_decided (Answer.Null NullCause.BadRequest) refl (refl, refl)

starts-get : (l : Local) (r : Request) (wanted : Option Served)
    → BeginsBy l.key (named_by r) l.call.old.number l.call.old.offset
    → Starts l.key r (begun_get (asked_for l r) wanted)
starts-get l r wanted begins =
    let l' : Local = asked_for l r in
    starts-get_as l r wanted (refusal_of l' wanted) (other_refusal l' wanted) begins

either_starts : (k : Key) (r : Request) (b : Bool) (x y : Local) → (b ≡ true → Starts k r x) → Starts k r y
    → Starts k r (cond b x y)
either_starts k r true x y one other = one refl
either_starts k r false x y one other = other

both_first : (a b : Bool) → (a && b) ≡ true → a ≡ true
both_first true b e = refl
both_first false b e = absurd (cc)

same_pool : (a b : ℕ) → eqb a b ≡ true → a ≡ b
same_pool a b e = ⊎_elim
    (λ (z : (eqb a b ≡ true) × (a ≡ b)). z.1)
    (λ (z : (eqb a b ≡ false) × (a ≢ b)). absurd (let no_ : true ≡ false = sym e ∙ z.0 in cc))
    (eqb_tells a b)

-- a place is looked at
starts-look : (l : Local) (r : Request) (place : Place) → names r ≡ true → named_by r ≡ Some place
    → Starts l.key r (begun_look (asked_for l r) r place)
starts-look l r place named is =
    let l' : Local = asked_for l r in
    either_starts l.key r (is_looked_at l' place) (looking_at l' place) (ready l' (not_held_as r Found.NoPlace))
    (λ looked. owes_nothing place.region place.offset (λ i. (place.region, place.offset, [], [], named i))
    (subst (λ (p : Option Place). BeginsBy l.key p place.region place.offset) (sym is)
    (same_pool place.pool l.key.pool (both_first _ _ looked), refl, refl)))
    (is_decided (not_held_as r Found.NoPlace) refl
    (not_held_as_pays l.key r Found.NoPlace [] [] (refl, refl)))

starts-leave_as : (l : Local) (what : Leaving) → Starts l.key Request.Exit
    (begun_leave_as (record (asked_for l Request.Exit) {
      call = record (asked_for l Request.Exit).call { stage = Stage.Leaving };
    }) what)
starts-leave_as l Leaving.Nothing = is_decided Answer.Exited refl (refl, refl)
starts-leave_as l (Leaving.Cached slab) = owes_nothing l.call.old.number l.call.old.offset refl tt
starts-leave_as l (Leaving.Unused kept) = owes_nothing l.call.old.number l.call.old.offset refl tt
starts-leave_as l (Leaving.Held kept) = owes_nothing l.call.old.number l.call.old.offset refl tt

starts-realloc : (l : Local) (place : Option Place) (size : ℕ) (wanted : Option Served)
    → Starts l.key (Request.Realloc place size)
    (begun_realloc (asked_for l (Request.Realloc place size)) (Request.Realloc place size) place wanted)
starts-realloc l (Some place) size wanted = starts-look l (Request.Realloc (Some place) size) place refl refl
starts-realloc l None size wanted = starts-get l (Request.Realloc None size) wanted tt

starts-aligned : (l : Local) (place : Option Place) (size alignment : ℕ) (wanted : Option Served)
    → Starts l.key (Request.AlignedRealloc place size alignment)
    (begun_realloc (asked_for l (Request.AlignedRealloc place size alignment))
    (Request.AlignedRealloc place size alignment) place wanted)
starts-aligned l (Some place) size alignment wanted =
    starts-look l (Request.AlignedRealloc (Some place) size alignment) place refl refl
starts-aligned l None size alignment wanted =
    starts-get l (Request.AlignedRealloc None size alignment) wanted tt

starts_as : (l : Local) (r : Request) → Starts l.key r (begun_as (asked_for l r) r)
starts_as l (Request.Malloc size) = starts-get l (Request.Malloc size) (served_as size None) tt
starts_as l (Request.Aligned size alignment) =
    starts-get l (Request.Aligned size alignment) (served_as size (Some alignment)) tt
starts_as l (Request.Realloc place size) = starts-realloc l place size (served_as size None)
starts_as l (Request.AlignedRealloc place size alignment) =
    let r : Request = Request.AlignedRealloc place size alignment in
    let l' : Local = asked_for l r in
    either_starts l.key r (is_power_of_two alignment)
    (begun_realloc l' r place (served_as size (Some alignment))) (ready l' (Answer.Null NullCause.BadRequest))
    (λ power. starts-aligned l place size alignment (served_as size (Some alignment)))
    (is_decided (Answer.Null NullCause.BadRequest) refl (refl, refl))
starts_as l (Request.Free (Some place)) = starts-look l (Request.Free (Some place)) place refl refl
starts_as l (Request.Free None) = is_decided Answer.False refl (refl, refl)
starts_as l (Request.Msize (Some place)) = starts-look l (Request.Msize (Some place)) place refl refl
starts_as l (Request.Msize None) = is_decided (Answer.Size 0) refl (refl, refl)
starts_as l (Request.Identify (Some place)) = starts-look l (Request.Identify (Some place)) place refl refl
starts_as l (Request.Identify None) = is_decided Answer.NoPool refl (refl, refl)
starts_as l Request.Exit = starts-leave_as l (next_to_leave l.heap)

pub starts : (l : Local) (r : Request) → is_idle l.at ≡ true → Starts l.key r (begun l r).0
starts l r idle = by (is_idle l.at) idle
  where
    by : (b : Bool) → b ≡ true → Starts l.key r (cond {A = Local × Result Unit InCall} b
        (begun_as (asked_for l r) r, Ok tt) (l, Err (record { seat = l.seat }))).0
    by true is = starts_as l r
    by false is = absurd (cc)
