-- What holds of each byte and each slab between calls, and which objects suit.
use Prim.Native.Nat.{zero, suc}
use Rattle.std.proofs.Common.{◌≡◌, ◌≢◌, ℕ, ◌+◌, ◌-◌, ◌*◌, ◌/◌, ◌<◌, ◌≤◌, Bool, true, false, List, [], ◌∷◌, Some, None, refl, sym, ◌∙◌, ap, arith, inl, inr, subst, lit<}
use Rattle.std.specs.Prelude.{Contains, slice_get}
use Rattle.std.specs.declared.option.Option.{Option}
use Rattle.std.proofs.lemmas.Bool.{cases_lt, cases_Bool}
use Rattle.pool_types.specs.declared.values.Place.{Place}
use Rattle.pool_types.specs.declared.values.Request.TheVariants.{Malloc}
use Rattle.pool_types.specs.declared.policy.RegionRec.{RegionRec}
use Rattle.pool_types.specs.declared.values.Region.{Region}
use Rattle.pool_types.specs.declared.rows.Keeper.{Keeper}
use Rattle.pool_types.specs.declared.rows.Keeper.TheVariants.{Seat, Orphan, Hand as InKeep}
use Rattle.part_model.specs.declared.holders.Holder.{Holder}
use Rattle.part_model.specs.declared.holders.Holder.TheVariants.{Head, Rest, Private, Public, Object, SlabCache, Cached, Bin, Queue}
use Rattle.part_model.specs.Holding.{same_region}
use Rattle.size_classes.specs.Classes.{class_size, class_objects, class_of}
use Rattle.size_classes.proofs.CallerLemmas.{class_size-least, class_of-found, object_offset-eights, object_offset-sixteens}
use Rattle.size_classes.specs.Layout.{head_bytes}
use Rattle.machine.specs.States.{State, Slab, fixed_terms}
use Rattle.machine.specs.Lawful.{IsKept}
use Rattle.machine.specs.Suits.{Suits}
use Rattle.machine.specs.Looks.{NoneWaits}
use Rattle.machine.specs.Answers.{NoneIsKept}
use Rattle.machine.specs.Turns.{Adjoins, IsCalm}
use Rattle.machine.proofs.CallerLemmas.{plain_aligned, enough_usable}
use Rattle.plain_lists.specs.Lists.{OwnSlab, Block, Lists}
use Rattle.plain_lists.specs.Whole.{place_at}
use Rattle.plain_runs.specs.Steps.{one_region, at_offset, block_range}
use Rattle.plain_runs.proofs.Layouts.{Use, Away, InBin, InHand, InCache, OfSlab, Layout, held_as, object_with, slab_holder, holder_in, held_by, Knows, some_bytes, one_more, slab_holder-head, slab_holder-behind}
use Rattle.plain_runs.proofs.ObjectSteps.{held_by-in, held_by-out}
use Rattle.plain_runs.proofs.LaidOut.{Holds, UseOf, none_has, slab_has, stored_has, block_has, use_of}

-- what a byte can be between two calls
abbrev pub is_settled : Option Holder → Bool
is_settled None = true
is_settled (Some Head) = true
is_settled (Some Rest) = true
is_settled (Some Private) = true
is_settled (Some (Object grant)) = true
is_settled (Some (SlabCache seat)) = true
is_settled (Some Bin) = true
is_settled holder = false

-- each byte of a slab is so
pub slab_settled : (slab : OwnSlab) (within : ℕ) → is_settled (slab_holder slab within) ≡ true
slab_settled slab within = elim (cases_lt within (head_bytes slab.class)) [
  | inl head ↦ ap is_settled (slab_holder-head slab within head)
  | inr behind ↦ ap is_settled (slab_holder-behind slab within behind) ∙ object_settled (slice_get slab.objects (object_with slab.class within))
]
  where
    object_settled : (got : Option (Option ℕ)) → is_settled (held_as got) ≡ true
    object_settled None = refl
    object_settled (Some None) = refl
    object_settled (Some (Some number)) = refl

-- so is each byte
pub all_settled : (state : State) (lists : Lists) → Holds state lists → (byte : Place) → is_settled (state.held byte) ≡ true
all_settled state lists holds byte = elim (cases_Bool (same_region byte (at_offset 0))) [
  | inr other ↦ ap is_settled (holds.knows.held_is byte ∙ held_by-out holds.layout byte other)
  | inl region ↦ by_use region (use_of lists holds.layout holds.good holds.lays (byte.offset / 8192))
]
  where
    at : same_region byte (at_offset 0) ≡ true → (use' : Use) → holds.layout (byte.offset / 8192) ≡ use' → is_settled (state.held byte) ≡ is_settled (holder_in use' byte.offset)
    at region use' is = ap is_settled (holds.knows.held_is byte ∙ held_by-in holds.layout byte use' region is)

    by_use : same_region byte (at_offset 0) ≡ true → UseOf lists holds.layout (byte.offset / 8192) → is_settled (state.held byte) ≡ true
    by_use region (none_has is) = at region Away is
    by_use region (slab_has slab member on is) = at region (OfSlab slab) is ∙ slab_settled slab (byte.offset - 8192 * slab.index)
    by_use region (stored_has index member on is) = at region InCache is
    by_use region (block_has block member on is) = at region InBin is

-- so no byte has another holder
pub never : (state : State) (lists : Lists) → Holds state lists → (holder : Option Holder) → is_settled holder ≡ false → (byte : Place) → state.held byte ≢ holder
never state lists holds holder other byte is = let clash : true ≡ false = sym (all_settled state lists holds byte) ∙ ap is_settled is ∙ other in cc

pub none_kept : (state : State) (lists : Lists) → Holds state lists → NoneIsKept state
none_kept state lists holds = record {
  queue = never state lists holds (Some Queue) refl;
  cache = λ byte granules. never state lists holds (Some (Cached granules)) refl byte;
}

-- each slab of the book is kept by the one seat
pub kept_by_seat : (state : State) (lists : Lists) → Holds state lists → (keeper : Keeper) (slab : Slab) → IsKept state keeper slab → keeper ≡ Seat 0
kept_by_seat state lists holds keeper slab kept =
    let booked = holds.knows.in_book slab kept.0 in
    sym kept.1 ∙ ap (λ (s : Slab). s.keeper) booked.is

-- no slab of the book is an orphan
pub no_orphan : (state : State) (layout : Layout) (region : Option Region) (granted : ℕ) (slab : Slab) → Knows state layout region granted → IsKept state Orphan slab → ⊥
no_orphan state layout region granted slab knows kept =
    let booked = knows.in_book slab kept.0 in
    let clash : Orphan ≡ Seat 0 = sym kept.1 ∙ ap (λ (s : Slab). s.keeper) booked.is in cc

-- none is in hand
pub none_in_hand : (state : State) (lists : Lists) → Holds state lists → (slab : Slab) → IsKept state (InKeep 0) slab → ⊥
none_in_hand state lists holds slab kept = let clash : InKeep 0 ≡ Seat 0 = kept_by_seat state lists holds (InKeep 0) slab kept in cc

-- no byte of a layout is public
laid_no_public : (layout : Layout) (byte : Place) → held_by layout byte ≢ Some Public
laid_no_public layout byte is = elim (cases_Bool (same_region byte (at_offset 0))) [
  | inl region ↦ let clash : false ≡ true = sym (by_use (layout (byte.offset / 8192))) ∙ ap is_public (sym (held_by-in layout byte (layout (byte.offset / 8192)) region refl) ∙ is) in cc
  | inr other ↦ let clash : None ≡ Some Public = sym (held_by-out layout byte other) ∙ is in cc
]
  where
    is_public : Option Holder → Bool
    is_public (Some Public) = true
    is_public holder = false

    by_slab : (slab : OwnSlab) (within : ℕ) → is_public (slab_holder slab within) ≡ false
    by_slab slab within = elim (cases_lt within (head_bytes slab.class)) [
      | inl head ↦ ap is_public (slab_holder-head slab within head)
      | inr behind ↦ ap is_public (slab_holder-behind slab within behind) ∙ by_object (slice_get slab.objects (object_with slab.class within))
    ]
      where
        by_object : (got : Option (Option ℕ)) → is_public (held_as got) ≡ false
        by_object None = refl
        by_object (Some None) = refl
        by_object (Some (Some number)) = refl

    by_use : (use' : Use) → is_public (holder_in use' byte.offset) ≡ false
    by_use Away = refl
    by_use InBin = refl
    by_use InHand = refl
    by_use InCache = refl
    by_use (OfSlab slab) = by_slab slab (byte.offset - 8192 * slab.index)

-- nothing waits to be taken back or adopted
pub none_waits : (state : State) (layout : Layout) (region : Option Region) (granted class : ℕ) → Knows state layout region granted → NoneWaits state 0 class
none_waits state layout region granted class knows = record {
  public = λ byte own is. laid_no_public layout byte (sym (knows.held_is byte) ∙ is);
  orphan = λ slab kept. no_orphan state layout region granted slab knows kept.0;
}

-- a pool between two calls is calm
pub calm_pool : (state : State) (lists : Lists) (untouched : List ℕ) → Holds state lists → IsCalm fixed_terms state untouched
calm_pool state lists untouched holds = record {
  queue = never state lists holds (Some Queue) refl;
  joined = λ one other in_one in_other adjoins.
      let first = holds.blocks one in_one in
      let second = holds.blocks other in_other in
      apart first.0 second.0 first.1 second.1 (subst (λ r. Adjoins r (block_range second.0)) first.2 (subst (λ r. Adjoins one r) second.2 adjoins));
  given = λ gives. absurd (let clash : true ≡ false = gives in cc);
}
  where
    apart : (one other : Block) → Contains lists.blocks one → Contains lists.blocks other → Adjoins (block_range one) (block_range other) → ⊥
    apart one other in_one in_other (region, inl ends) = holds.good.parted one other in_one in_other (omega (arith, ends))
    apart one other in_one in_other (region, inr ends) = holds.good.parted other one in_other in_one (omega (arith, ends))

-- the smallest class
class_size-first : class_size 0 ≡ 8
unfolding class_size
class_size-first = refl

-- an object suits each size of its class
pub object_suits : (state : State) (size class index object : ℕ) → state.regions ≡ one_region ∷ [] → index + 2 ≤ 128 → class_of size ≡ Some class → size ≤ 8128 → object < class_objects class →
    Suits fixed_terms.limits state (Malloc size) (place_at index class object) (class_size class)
object_suits state size class index object is few found small free =
    let first = class_of-found size class found in
    let fits : (object + 1) * class_size class ≤ 16256 = some_bytes class (object + 1) (omega arith) in
    let more : (object + 1) * class_size class ≡ object * class_size class + class_size class = one_more object class in
    record {
      region = one_region;
      live = subst (λ (rs : List RegionRec). Contains rs one_region) (sym is) (0, lit< tt, refl);
      there = (refl, refl);
      enough = enough_usable size (class_size class) (class_size-least class first.exists) first.fits;
      inside = omega arith;
      aligned = plain_aligned (1048576 + (8192 * index + (16384 - (object + 1) * class_size class))) size
          (λ low. omega (arith, object_offset-eights class object))
          (λ above most. omega (arith, object_offset-sixteens class object (some_class class above first.fits)))
          (λ large. absurd (omega arith));
    }
  where
    some_class : (class : ℕ) → 8 < size → size ≤ class_size class → 0 < class
    some_class zero above enough = absurd (let eight : class_size 0 ≡ 8 = class_size-first in omega arith)
    some_class (suc class) above enough = omega arith
