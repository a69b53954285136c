-- What follows from what a local says by itself.
use Rattle.std.proofs.Common.{◌≡◌, ℕ, ◌<◌, ◌≤◌, ◌⊎◌, inl, inr, Bool, true, false, cond, ltb, Option, Some, None, refl}
use Rattle.std.proofs.Common.{length, sym, ap, subst, arith, ◌∙◌}
use Rattle.std.specs.Prelude.{◌||◌, ◌==◌, is_some, nat_lt}
use Rattle.std.proofs.lemmas.Bool.Decides.{nat_tests}
use Rattle.std.proofs.lemmas.Option.{same_Some}
use Rattle.pool_words.specs.declared.words.Key.{Key}
use Rattle.heap_slabs.specs.declared.records.HeapSlab.{HeapSlab}
use Rattle.heap_slabs.specs.Records.{has_object, next_by, unit_of}
use Rattle.heap_slabs.specs.Cached.{high_mark}
use Rattle.heap_slabs.specs.Slabs.{record_at}
use Rattle.heap_slabs.proofs.Keeping.{within}
use Rattle.size_classes.specs.Classes.{class_objects}
use Rattle.slab_laws.specs.Heaps.{HeapFits}
use Rattle.pool_types.specs.Limits.{most_seats, most_span}
use Rattle.pool_types.specs.Policies.{least_span}
use Rattle.step_local.specs.declared.frames.At.{At}
use Rattle.step_local.specs.declared.frames.LargeAt.{LargeAt}
use Rattle.step_local.specs.declared.frames.Local.{Local}
use Rattle.step_local.specs.declared.frames.ResetStage.{ResetStage}
use Rattle.step_local.specs.declared.frames.Served.{Served}
use Rattle.step_local.specs.declared.frames.SmallAt.{SmallAt}
use Rattle.step_local.specs.declared.frames.Stage.{Stage}
use Rattle.step_local.specs.Answers.{head_at, head_of}
use Rattle.step_local.specs.Getting.{last_grant}
use Rattle.step_local.specs.Large.{granules_of_served}
use Rattle.step_local.specs.Slabs.{class_of_served}
use Rattle.step_numbers.specs.Positions.{FitsAt, granting, granting_large, granting_small}
use Rattle.step_tasks.specs.Objects.{rest_at, rest_in}
use Rattle.step_fits.specs.Frames.{ServedFits, rooms_at}
use Rattle.step_fits.specs.Large.{GetsLarge, IsLarge}
use Rattle.step_fits.specs.Laws.{CachedSlabsHaveRoom, EndedSlabsHoldNothing, GetsAreOfBins, GrantsAreInKeptSlabs}
use Rattle.step_fits.specs.Laws.{NothingLiesAsideElsewhere, SeatsOfPoolsFit, SweepsAreOfBins}
use Rattle.step_fits.specs.Laws.{GrantsHaveNumbers, IsGetAt, IsNext, KeptSlabsAreOfThePool, StagesOfMailboxes}
use Rattle.step_fits.specs.Laws.{TakesMailAt}
use Rattle.step_fits.specs.Mail.{ResetTakes, TakesMail}
use Rattle.step_fits.specs.Positions.{AtFits, LocalFits}
use Rattle.step_fits.specs.Resets.{IsCacheBin}
use Rattle.step_fits.specs.Small.{EndsSlab, GivesFrom, KeepsUnused, SmallFits}
use Rattle.step_fits.proofs.Heaps.{class-low, slab-is}
use Rattle.step_fits.proofs.Slabs.{gets_of}

-- at its position a local says what is said there
pub place_at : (k : Key) (seat : ℕ) (sure : Bool) (l : Local) (at : At) → LocalFits k seat sure l → l.at ≡ at
    → AtFits sure l at
place_at k seat sure l at fits here = subst (AtFits sure l) here fits.place

-- the next object of a slab with a private one, and of one with none
rest_left : (kept : HeapSlab) → kept.head ≡ None → has_object kept ≡ true
    → ltb kept.handed (class_objects kept.class) ≡ true
rest_left kept none has =
    sym (ap (λ (h : Option ℕ). is_some h || ltb kept.handed (class_objects kept.class)) none) ∙ has

next_private : (l : Local) (slab head : ℕ) → GivesFrom true l slab → head_at l slab ≡ Some head → (kept : HeapSlab)
    × IsNext l.heap.slabs l.call.slab (class_of_served l.call.served) head kept
next_private l slab head gives is =
    let kept : HeapSlab = (gives.2 refl).0 in
    let there = (gives.2 refl).1.there in
    let top : kept.head ≡ Some head = sym (ap head_of there) ∙ is in (
      kept,
      record {
        there = ap (record_at l.heap.slabs.records) (sym gives.1) ∙ there;
        class' = (gives.2 refl).1.class';
        next = ap (next_by kept) top;
      },
    )

next_rest : {k : Key} (l : Local) (slab unit : ℕ) → HeapFits k l.heap.slabs → GivesFrom true l slab
    → head_at l slab ≡ None → unit ≡ rest_at l slab
    → (kept : HeapSlab) × IsNext l.heap.slabs l.call.slab (class_of_served l.call.served) unit kept
next_rest l slab unit heap gives is rest =
    let kept : HeapSlab = (gives.2 refl).0 in
    let there = (gives.2 refl).1.there in
    let top : kept.head ≡ None = sym (ap head_of there) ∙ is in
    let left = rest_left kept top (gives.2 refl).1.object in
    let slab' : kept.slab ≡ slab = slab-is l.heap.slabs slab kept heap there in
    let place : unit ≡ unit_of slab kept.class kept.handed = rest ∙ ap (rest_in slab) there in (
      kept,
      record {
        there = ap (record_at l.heap.slabs.records) (sym gives.1) ∙ there;
        class' = (gives.2 refl).1.class';
        next = ap (next_by kept) top
            ∙ ap (λ (b : Bool). cond b (Some (unit_of kept.slab kept.class kept.handed)) None) left
            ∙ ap (λ n. Some (unit_of n kept.class kept.handed)) slab' ∙ ap Some (sym place);
      },
    )

next_of_grant : {k : Key} (l : Local) (at : SmallAt) (unit : ℕ) → HeapFits k l.heap.slabs → SmallFits true l at
    → granting_small at ≡ Some unit
    → (kept : HeapSlab) × IsNext l.heap.slabs l.call.slab (class_of_served l.call.served) unit kept
next_of_grant l (SmallAt.Private slab head below) unit heap fits is =
    next_private l slab unit fits.0 (fits.1 ∙ is)
next_of_grant l (SmallAt.Rest slab next) unit heap fits is =
    next_rest l slab unit heap fits.0 fits.1 (sym (same_Some next unit is) ∙ fits.2)
next_of_grant l _ unit heap fits is = absurd (cc)

pub grants_are_in_kept_slabs : GrantsAreInKeptSlabs
grants_are_in_kept_slabs k seat l at unit fits here is =
    next_of_grant l at unit fits.frames.slabs (place_at k seat true l (At.Small at) fits here) is

-- a number is left where the next step grants
left_large : (l : Local) (at : LargeAt) (unit : ℕ) → FitsAt l (At.Large at) → granting_large at ≡ Some unit
    → l.last < last_grant
left_large l (LargeAt.Grant unit) u fits is = (fits refl).left
left_large l _ u fits is = absurd (cc)

left_small : (l : Local) (at : SmallAt) (unit : ℕ) → FitsAt l (At.Small at) → granting_small at ≡ Some unit
    → l.last < last_grant
left_small l (SmallAt.Private slab head below) u fits is = (fits refl).left
left_small l (SmallAt.Rest slab unit) u fits is = (fits refl).left
left_small l _ u fits is = absurd (cc)

left_at : (l : Local) (at : At) (unit : ℕ) → FitsAt l at → granting at ≡ Some unit → l.last < last_grant
left_at l (At.Large at) unit fits is = left_large l at unit fits is
left_at l (At.Small at) unit fits is = left_small l at unit fits is
left_at l _ unit fits is = absurd (cc)

pub grants_have_numbers : GrantsHaveNumbers
grants_have_numbers k seat sure l unit fits is = left_at l l.at unit fits.numbers.place is

pub kept_slabs_are_of_the_pool : KeptSlabsAreOfThePool
kept_slabs_are_of_the_pool k seat sure l slab kept fits is =
    let heap = fits.frames.slabs in
    let room = heap.room in
    let long = heap.are.long in
    let low = within l.heap.slabs.records slab kept is in record {
      slab' = slab-is l.heap.slabs slab kept heap is;
      inside = omega arith;
      class = class-low l.heap.slabs slab kept heap is;
    }

reset_takes : (l : Local) (stage : ResetStage) → ResetTakes l stage
    → (class : ℕ) × (Stage.Resetting stage ≡ Stage.Resetting (ResetStage.Heap (Some class)))
reset_takes l (ResetStage.Heap (Some class)) is = (class, refl)
reset_takes l _ is = absurd is

takes_at : (l : Local) (stage : Stage) → TakesMail l stage → TakesMailAt stage
takes_at l Stage.Getting is = inl refl
takes_at l Stage.Leaving is = inr (inl refl)
takes_at l (Stage.Resetting stage) is = inr (inr (reset_takes l stage is))
takes_at l _ is = absurd is

pub stages_of_mailboxes : StagesOfMailboxes
stages_of_mailboxes k seat sure l at fits here =
    takes_at l l.call.stage (place_at k seat sure l (At.Mailbox at) fits here)

holds_nothing : (l : Local) (slab : ℕ) (now : Stage) → EndsSlab l slab now
    → KeepsUnused l slab ⊎ ((stage : ResetStage) × (now ≡ Stage.Resetting stage))
holds_nothing l slab Stage.Getting is = inl is.1
holds_nothing l slab Stage.Ending is = inl is
holds_nothing l slab Stage.Replacing is = inl is
holds_nothing l slab Stage.Undoing is = inl is
holds_nothing l slab Stage.Leaving is = inl is
holds_nothing l slab (Stage.Resetting stage) is = inr (stage, refl)
holds_nothing l slab _ is = absurd is

pub ended_slabs_hold_nothing : EndedSlabsHoldNothing
ended_slabs_hold_nothing k seat sure l slab fits here =
    holds_nothing l slab l.call.stage (place_at k seat sure l (At.Small (SmallAt.Empty slab)) fits here)

pub cached_slabs_have_room : CachedSlabsHaveRoom
cached_slabs_have_room k seat sure l slab fits here =
    let few : length l.heap.cached.items ≤ high_mark =
    subst (λ (at : At). length l.heap.cached.items ≤ (rooms_at at).cached) here fits.frames.few in
    let room = fits.frames.cached.room' in
    omega arith

get_bin : (k : Key) (served : Served) → ServedFits k served → IsLarge served → k.span ≤ most_span
    → IsCacheBin (granules_of_served served)
get_bin k (Served.Large granules alignment) fits large span =
    let less = fits.1 in record { least = fits.0; most = omega arith }
get_bin k (Served.Small class) fits large span = absurd large

gets_large : (sure : Bool) (l : Local) (at : At) → IsGetAt at → AtFits sure l at → GetsLarge l
gets_large sure l (At.Get at) is fits = fits
gets_large sure l (At.Undo cause at) is fits = fits.0
gets_large sure l _ is fits = absurd is

pub gets_are_of_bins : GetsAreOfBins
gets_are_of_bins k seat sure l of fits is =
    let gets : GetsLarge l = gets_large sure l l.at is fits.place in
    get_bin k l.call.served (gets_of l.call.stage fits.frames.call gets.0).fits gets.1 of.span

pub sweeps_are_of_bins : SweepsAreOfBins
sweeps_are_of_bins k seat sure l at fits here = record {
  least = (place_at k seat sure l (At.Sweep at) fits here).0;
  most = fits.frames.bin';
}

pub nothing_lies_aside_elsewhere : NothingLiesAsideElsewhere
nothing_lies_aside_elsewhere k seat sure l fits is = fits.frames.none is

either_false : (a b : Bool) → (a || b) ≡ false → (a ≡ false) × (b ≡ false)
either_false true b is = absurd (cc)
either_false false true is = absurd (cc)
either_false false false is = (refl, refl)

pub seats_of_pools_fit : SeatsOfPoolsFit
seats_of_pools_fit policy limits seat allowed low =
    let seats = either_false (limits.seats == 0) (nat_lt most_seats limits.seats) allowed.limits_in.0.0 in
    let spans = either_false (nat_lt most_span limits.span) (nat_lt limits.span (least_span policy limits))
    allowed.limits_in.1 in
    let few : nat_lt most_seats limits.seats ≡ false = seats.1 in
    let short : nat_lt most_span limits.span ≡ false = spans.0 in record {
      seats = low;
      few = grind (arith, nat_tests);
      span = grind (arith, nat_tests);
    }
