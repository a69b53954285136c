-- What the lists lack: a slab with an object to give, a slab in the slab cache, a block in a bin.
use Prim.Native.Nat.{suc}
use Rattle.std.proofs.Common.{◌≡◌, ◌≢◌, ℕ, ◌+◌, ◌-◌, ◌*◌, ◌/◌, ◌<◌, ◌≤◌, Bool, true, false, List, [], ◌∷◌, length, get_or, Some, None, refl, sym, ◌∙◌, ap, arith, inl, inr, subst}
use Rattle.std.specs.Prelude.{Contains, find, slice_get}
use Rattle.std.specs.declared.option.Option.{Option}
use Rattle.std.proofs.lemmas.Bool.{cases_lt, cases_Bool}
use Rattle.std.proofs.lemmas.Bool.Decides.{nat_tests}
use Rattle.std.proofs.lemmas.Option.{slice_get-get_or, slice_get_within}
use Rattle.pool_types.specs.declared.values.Place.{Place}
use Rattle.pool_types.specs.declared.values.Region.{Region}
use Rattle.part_model.specs.declared.holders.Holder.{Holder}
use Rattle.part_model.specs.declared.holders.Holder.TheVariants.{Rest, Private, SlabCache, Bin}
use Rattle.part_model.specs.Holding.{same_region, lies_in}
use Rattle.part_model.proofs.CallerLemmas.{lies_in-parts, lies_in-is}
use Rattle.size_classes.specs.Classes.{class_size, class_objects}
use Rattle.size_classes.proofs.CallerLemmas.{class_size-least}
use Rattle.size_classes.specs.Layout.{head_bytes}
use Rattle.machine.specs.States.{State, Slab}
use Rattle.machine.specs.Ranges.{slab_range}
use Rattle.machine.specs.Lawful.{is_of_slab}
use Rattle.machine.specs.Looks.{IsOwnByte, NoneFree}
use Rattle.machine.specs.Answers.{IsUsed, NoneIsSpare}
use Rattle.list_laws.proofs.Finds.{find-None}
use Rattle.list_laws.proofs.Members.{Contains-none}
use Rattle.plain_lists.specs.Lists.{OwnSlab, Lists, has_free}
use Rattle.plain_lists.specs.Whole.{newest, place_at}
use Rattle.plain_lists.specs.Good.{IsGoodSlab, times, nones}
use Rattle.plain_runs.specs.Steps.{at_offset, granule_place, slab_of}
use Rattle.plain_runs.proofs.Layouts.{Away, InBin, InCache, OfSlab, Layout, held_as, object_with, slab_holder, IsLaid, Knows, some_bytes, one_more, object_with-has, slab_holder-head, slab_holder-behind}
use Rattle.plain_runs.proofs.Moves.{granules_range, plain_no_slab}
use Rattle.plain_runs.proofs.ObjectSteps.{held_by-in, held_by-out, same_slab}
use Rattle.plain_runs.proofs.EndSteps.{slab_byte}
use Rattle.plain_runs.proofs.LaidOut.{Holds, UseOf, none_has, slab_has, stored_has, block_has, use_of}
use Rattle.plain_runs.proofs.Objects.{object_is}

-- a slab of the book is one of the lists
pub record IsOwn (lists : Lists) (layout : Layout) (slab : Slab) : Type 0 where
  pub own : OwnSlab
  pub member : Contains lists.slabs own
  pub laid_is : IsLaid layout own
  pub is : slab ≡ slab_of own.index own.class

-- a slab that the layout has is one of the lists
pub own_listed : (state : State) (lists : Lists) (holds : Holds state lists) (own : OwnSlab) → holds.layout own.index ≡ OfSlab own → Contains lists.slabs own
own_listed state lists holds own laid_is = by_use (use_of lists holds.layout holds.good holds.lays own.index)
  where
    by_use : UseOf lists holds.layout own.index → Contains lists.slabs own
    by_use (slab_has slab listed on is) = subst (Contains lists.slabs) (same_slab slab own (sym is ∙ laid_is)) listed
    by_use (none_has is) = absurd (plain_no_slab Away own refl (sym is ∙ laid_is))
    by_use (stored_has index listed on is) = absurd (plain_no_slab InCache own refl (sym is ∙ laid_is))
    by_use (block_has block listed on is) = absurd (plain_no_slab InBin own refl (sym is ∙ laid_is))

pub own_slab : (state : State) (lists : Lists) (holds : Holds state lists) (slab : Slab) → Contains state.book slab → IsOwn lists holds.layout slab
own_slab state lists holds slab member =
    let booked = holds.knows.in_book slab member in
    record {
      own = booked.own;
      member = own_listed state lists holds booked.own booked.laid_is;
      laid_is = (holds.knows.slabs_are booked.own.index booked.own booked.laid_is).0;
      is = booked.is;
    }

-- what a slab gives
abbrev pub is_idle : Option Holder → Bool
is_idle (Some Rest) = true
is_idle (Some Private) = true
is_idle holder = false

-- a slab that has no object to give: all were handed out, and none is private
all_out : (slab : OwnSlab) (class : ℕ) → slab.class ≡ class → has_free class slab ≡ false → class_objects slab.class ≤ length slab.objects
all_out slab class same full = grind (arith, nat_tests)

none_private : (slab : OwnSlab) (class : ℕ) → slab.class ≡ class → has_free class slab ≡ false → length slab.private ≡ 0
none_private slab class same full = grind (arith, nat_tests)

-- none of its bytes is rest or private
pub none_idle : (slab : OwnSlab) (class within : ℕ) → IsGoodSlab slab → slab.class ≡ class → has_free class slab ≡ false → within < 16384 → is_idle (slab_holder slab within) ≡ false
none_idle slab class within good same full below = elim (cases_lt within (head_bytes slab.class)) [
  | inl head ↦ ap is_idle (slab_holder-head slab within head)
  | inr behind ↦
      let has = object_with-has slab.class within good.class_is behind below in
      let exists = has.exists in
      let out = all_out slab class same full in
      ap is_idle (slab_holder-behind slab within behind) ∙ by_object (slice_get slab.objects (object_with slab.class within)) refl (omega arith)
]
  where
    by_object : (got : Option (Option ℕ)) → slice_get slab.objects (object_with slab.class within) ≡ got → object_with slab.class within < length slab.objects → is_idle (held_as got) ≡ false
    by_object None is out = absurd (let clash : None ≡ Some (get_or slab.objects (object_with slab.class within) None) = sym is ∙ slice_get-get_or slab.objects (object_with slab.class within) None out in cc)
    by_object (Some None) is out =
        let one = good.listed (object_with slab.class within) is in
        absurd (none_in slab.private (none_private slab class same full) one)
      where
        none_in : (private : List ℕ) → length private ≡ 0 → times (object_with slab.class within) private ≡ 1 → ⊥
        none_in [] none one = omega (arith, one)
        none_in (object ∷ private) none one = omega arith
    by_object (Some (Some number)) is out = refl

-- What a layout has of slabs another one had.
abbrev pub HasSlabsOf : Layout → Layout → Type 0
HasSlabsOf next layout = (g : ℕ) (slab : OwnSlab) → next g ≡ OfSlab slab → layout g ≡ OfSlab slab

-- Where no slab of a class had an object to give, none has, as long as no slab began.
pub idle_own : (state : State) (lists : Lists) (holds : Holds state lists) (class : ℕ) → find (has_free class) lists.slabs ≡ None →
    (next : State) (layout : Layout) (region : Option Region) (granted : ℕ) → Knows next layout region granted → HasSlabsOf layout holds.layout →
    (byte : Place) → IsOwnByte next 0 class byte → is_idle (next.held byte) ≡ false
idle_own state lists holds class none next layout region granted knows was byte own =
    let booked = knows.in_book own.0 own.1.0.0 in
    let member = own_listed state lists holds booked.own (was booked.own.index booked.own booked.laid_is) in
    let there : lies_in byte (granules_range booked.own.index 2) ≡ true = sym (ap (λ (s : Slab). lies_in byte (slab_range s.place)) booked.is) ∙ own.2 in
    let parts = lies_in-parts byte (granules_range booked.own.index 2) there in
    let low = parts.from in
    let high = parts.below in
    ap is_idle (knows.held_is byte ∙ slab_byte layout booked.own byte (knows.slabs_are booked.own.index booked.own booked.laid_is).0 there)
    ∙ none_idle booked.own class (byte.offset - 8192 * booked.own.index) (holds.good.slabs_are booked.own member) (sym (ap (λ (s : Slab). s.class) booked.is) ∙ own.1.1)
    (find-None (has_free class) lists.slabs none booked.own member) (omega arith)

-- no byte is in the slab cache where the lists have no slab there
pub no_stored : (state : State) (lists : Lists) → Holds state lists → lists.stored ≡ [] → (byte : Place) → state.held byte ≢ Some (SlabCache 0)
no_stored state lists holds empty byte is = elim (cases_Bool (same_region byte (at_offset 0))) [
  | inl region ↦ let clash : false ≡ true = sym (by_use region (use_of lists holds.layout holds.good holds.lays (byte.offset / 8192))) ∙ ap is_cached is in cc
  | inr other ↦ let clash : None ≡ Some (SlabCache 0) = sym (held_by-out holds.layout byte other) ∙ sym (holds.knows.held_is byte) ∙ is in cc
]
  where
    is_cached : Option Holder → Bool
    is_cached (Some (SlabCache seat)) = true
    is_cached holder = false

    slab_uncached : (slab : OwnSlab) (within : ℕ) → is_cached (slab_holder slab within) ≡ false
    slab_uncached slab within = elim (cases_lt within (head_bytes slab.class)) [
      | inl head ↦ ap is_cached (slab_holder-head slab within head)
      | inr behind ↦ ap is_cached (slab_holder-behind slab within behind) ∙ by_object (slice_get slab.objects (object_with slab.class within))
    ]
      where
        by_object : (got : Option (Option ℕ)) → is_cached (held_as got) ≡ false
        by_object None = refl
        by_object (Some None) = refl
        by_object (Some (Some number)) = refl

    by_use : same_region byte (at_offset 0) ≡ true → UseOf lists holds.layout (byte.offset / 8192) → is_cached (state.held byte) ≡ false
    by_use region (none_has is) = ap is_cached (holds.knows.held_is byte ∙ held_by-in holds.layout byte Away region is)
    by_use region (slab_has slab member on is) = ap is_cached (holds.knows.held_is byte ∙ held_by-in holds.layout byte (OfSlab slab) region is) ∙ slab_uncached slab (byte.offset - 8192 * slab.index)
    by_use region (stored_has index member on is) = absurd (Contains-none index (subst (λ xs. Contains xs index) empty member))
    by_use region (block_has block member on is) = ap is_cached (holds.knows.held_is byte ∙ held_by-in holds.layout byte InBin region is)

-- no slab of the class has an object to give, and the slab cache is empty
pub none_free : (state : State) (lists : Lists) (class : ℕ) → Holds state lists → find (has_free class) lists.slabs ≡ None → lists.stored ≡ [] → NoneFree state 0 class
none_free state lists class holds none empty =
    let idle = idle_own state lists holds class none state holds.layout lists.region lists.granted holds.knows (λ g slab is. is) in
    record {
      given = record {
        rest = λ byte own is. let clash : false ≡ true = sym (idle byte own) ∙ ap is_idle is in cc;
        private = λ byte own is. let clash : false ≡ true = sym (idle byte own) ∙ ap is_idle is in cc;
      };
      stored = no_stored state lists holds empty;
    }

-- an object of a slab that is held
pub some_held : (objects : List (Option ℕ)) → nones objects < length objects → (object : ℕ) × ((number : ℕ) × (slice_get objects object ≡ Some (Some number)))
some_held [] few = absurd (omega (arith, few))
some_held (Some number ∷ objects) few = (0, (number, refl))
some_held (None ∷ objects) few = let later = some_held objects (omega (arith, few)) in (suc later.0, later.1)

-- the seat has given up what it can: its slab cache is empty, and each of its slabs has an object that is held
pub none_spare : (state : State) (lists : Lists) → Holds state lists → lists.stored ≡ [] → NoneIsSpare state 0
none_spare state lists holds empty = record {
  stored = no_stored state lists holds empty;
  used = λ slab kept. used (own_slab state lists holds slab kept.0);
}
  where
    used : {slab : Slab} → IsOwn lists holds.layout slab → IsUsed state slab
    used {slab} mine =
        let good = holds.good.slabs_are mine.own mine.member in
        let counted = good.counted in
        let held = good.held in
        let one = some_held mine.own.objects (omega (arith, counted, held)) in
        let object = object_is state lists holds mine.own one.0 one.1.0 mine.member one.1.1 in
        let below = slice_get_within mine.own.objects one.0 (Some one.1.0) one.1.1 in
        let few = good.few in
        let room : (one.0 + 1) * class_size mine.own.class ≤ 16256 = some_bytes mine.own.class (one.0 + 1) (omega (arith, below, few)) in
        let some : 8 ≤ class_size mine.own.class = class_size-least mine.own.class good.class_is in
        let more : (one.0 + 1) * class_size mine.own.class ≡ one.0 * class_size mine.own.class + class_size mine.own.class = one_more one.0 mine.own.class in
        subst (λ s. IsUsed state s) (sym mine.is) (record {
          byte = place_at mine.own.index mine.own.class one.0;
          inside = lies_in-is (place_at mine.own.index mine.own.class one.0) (slab_range (granule_place mine.own.index)) refl (omega arith) (omega (arith, room, some, more));
          out = ap is_of_slab object.begins.held;
        })

-- where no block is in a bin, no byte is
pub no_bin : (state : State) (lists : Lists) → Holds state lists → lists.blocks ≡ [] → (byte : Place) → state.held byte ≢ Some Bin
no_bin state lists holds empty byte is = elim (cases_Bool (same_region byte (at_offset 0))) [
  | inl region ↦ let clash : false ≡ true = sym (by_use region (use_of lists holds.layout holds.good holds.lays (byte.offset / 8192))) ∙ ap is_bin is in cc
  | inr other ↦ let clash : None ≡ Some Bin = sym (held_by-out holds.layout byte other) ∙ sym (holds.knows.held_is byte) ∙ is in cc
]
  where
    is_bin : Option Holder → Bool
    is_bin (Some Bin) = true
    is_bin holder = false

    slab_no_bin : (slab : OwnSlab) (within : ℕ) → is_bin (slab_holder slab within) ≡ false
    slab_no_bin slab within = elim (cases_lt within (head_bytes slab.class)) [
      | inl head ↦ ap is_bin (slab_holder-head slab within head)
      | inr behind ↦ ap is_bin (slab_holder-behind slab within behind) ∙ by_object (slice_get slab.objects (object_with slab.class within))
    ]
      where
        by_object : (got : Option (Option ℕ)) → is_bin (held_as got) ≡ false
        by_object None = refl
        by_object (Some None) = refl
        by_object (Some (Some number)) = refl

    by_use : same_region byte (at_offset 0) ≡ true → UseOf lists holds.layout (byte.offset / 8192) → is_bin (state.held byte) ≡ false
    by_use region (none_has is) = ap is_bin (holds.knows.held_is byte ∙ held_by-in holds.layout byte Away region is)
    by_use region (slab_has slab member on is) = ap is_bin (holds.knows.held_is byte ∙ held_by-in holds.layout byte (OfSlab slab) region is) ∙ slab_no_bin slab (byte.offset - 8192 * slab.index)
    by_use region (stored_has index member on is) = ap is_bin (holds.knows.held_is byte ∙ held_by-in holds.layout byte InCache region is)
    by_use region (block_has block member on is) = absurd (Contains-none block (subst (λ bs. Contains bs block) empty member))

-- the slab cache is empty where it has no newest slab
pub none_newest : (stored : List ℕ) → newest stored ≡ None → stored ≡ []
none_newest [] is = refl
none_newest (index ∷ stored) is =
    absurd (let clash : Some (get_or (index ∷ stored) (length (index ∷ stored) - 1) 0) ≡ None = sym (slice_get-get_or (index ∷ stored) (length (index ∷ stored) - 1) 0 (omega arith)) ∙ is in cc)
