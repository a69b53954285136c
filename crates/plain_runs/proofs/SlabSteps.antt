-- The steps with which a slab begins and ends.
use Rattle.std.proofs.Common.{◌≡◌, ◌≢◌, ℕ, ◌+◌, ◌-◌, ◌*◌, ◌/◌, ◌%◌, ◌<◌, ◌≤◌, Bool, true, false, ◌&&◌, ◌||◌, List, [], ◌∷◌, ◌++◌, length, Some, refl, sym, ◌∙◌, ap, arith, inl, inr, subst, nat_lt, nat_le}
use Rattle.std.specs.Prelude.{if◌then◌else◌, Contains, ◌==◌}
use Rattle.std.specs.declared.option.Option.{Option}
use Rattle.std.proofs.lemmas.Bool.{cases_Bool, cases_lt, and_from, le-leb, lt-ltb, eqb-false, false_from_ne_true}
use Rattle.std.proofs.lemmas.Bool.Decides.{nat_tests}
use Rattle.std.proofs.lemmas.List.Elements.{Contains-append_left, Contains-push, Contains-push_cases}
use Rattle.std.proofs.Math.Nat.{mul-le-mul_right}
use Rattle.pool_types.specs.declared.values.Place.{Place}
use Rattle.pool_types.specs.declared.values.Region.{Region}
use Rattle.part_model.specs.declared.holders.Holder.{Holder}
use Rattle.part_model.specs.declared.holders.Holder.TheVariants.{Head, Rest, Private, Hand}
use Rattle.part_model.specs.declared.moves.Range.{Range}
use Rattle.part_model.specs.declared.moves.Part.{Part}
use Rattle.part_model.specs.Holding.{Holding, same_region, lies_in, after_part, after_parts, IsApart, AreApart, IsWhole, CanMove, CanMoveAll}
use Rattle.part_model.proofs.CallerLemmas.{lies_in_any, after_parts-at, after_part-inside, after_part-outside, lies_in-parts, lies_in-is, lies_in-not}
use Rattle.size_classes.specs.Classes.{class_size, class_objects}
use Rattle.size_classes.proofs.CallerLemmas.{class_objects-fit, class_objects-least, class_size-least}
use Rattle.size_classes.specs.Layout.{head_bytes}
use Rattle.machine.specs.States.{State}
use Rattle.machine.specs.Ranges.{Each, part_of, head_range, objects_range, lies_in_parts}
use Rattle.machine.specs.Regions.{some_part}
use Rattle.machine.specs.Lawful.{slab_begins}
use Rattle.machine.proofs.CallerLemmas.{each-append, each-some_part, two_apart, two_whole, lies_within, lies_in_any-some_part, lies_in_any-append}
use Rattle.plain_lists.specs.Lists.{OwnSlab, lies_on, begun}
use Rattle.plain_lists.specs.Backend.{slab_block}
use Rattle.plain_lists.proofs.Granules.{lies_on-parts}
use Rattle.plain_runs.specs.Steps.{at_offset, granule_place, slab_of, begin_step, rest_range, handed_range}
use Rattle.plain_runs.proofs.Layouts.{Use, InHand, OfSlab, Layout, slab_holder, held_by, laid, IsLaid, Knows, slab_holder-head, slab_holder-behind}
use Rattle.plain_runs.proofs.Moves.{granules_range, is_plain, plain_no_slab, laid-inside, laid-outside, granules_there}
use Rattle.plain_runs.proofs.GranuleSteps.{Does, IsAll, slab_room}
use Rattle.plain_runs.proofs.ObjectSteps.{held_by-in, held_by-out, held_by-same, on_slab, same_slab}

-- a byte of another region, or of a granule outside, lies in no range within
pub not_within : (one : Range) (first granules : ℕ) (byte : Place) → same_region one.place (at_offset 0) ≡ true → 8192 * first ≤ one.place.offset → one.place.offset + one.bytes ≤ 8192 * (first + granules) →
    lies_on first granules (byte.offset / 8192) ≡ false → lies_in byte one ≡ false
not_within one first granules byte here low high off = lies_in-not byte one (λ inside.
    let parts = lies_in-parts byte one inside in
    let from = parts.from in
    let below = parts.below in
    let least : first ≤ byte.offset / 8192 = omega arith in
    let most : byte.offset / 8192 < first + granules = omega arith in
    let on : lies_on first granules (byte.offset / 8192) ≡ true = and_from _ _ (le-leb _ _ least) (lt-ltb _ _ most) in
    let clash : true ≡ false = sym on ∙ off in cc)

-- the two parts of a slab that begins
abbrev pub begin_head : ℕ → ℕ → Part
begin_head index class = part_of (head_range (granule_place index) class) (Some (Hand 0)) (Some Head)

abbrev pub begin_rest : ℕ → ℕ → Part
begin_rest index class = part_of (objects_range (granule_place index) class) (Some (Hand 0)) (Some Rest)

pub moved_begun : (layout : Layout) (index class : ℕ) (byte : Place) →
    after_parts (held_by layout) (begin_head index class ∷ begin_rest index class ∷ []) byte ≡ held_by (laid layout index 2 (OfSlab (begun index class))) byte
moved_begun layout index class byte = elim (cases_Bool (same_region byte (at_offset 0))) [
  | inr other ↦
      outside_both (lies_in-not byte (objects_range (granule_place index) class) (λ inside. let clash : true ≡ false = sym (lies_in-parts byte (objects_range (granule_place index) class) inside).region ∙ other in cc))
      (lies_in-not byte (head_range (granule_place index) class) (λ inside. let clash : true ≡ false = sym (lies_in-parts byte (head_range (granule_place index) class) inside).region ∙ other in cc))
      ∙ held_by-out layout byte other ∙ sym (held_by-out next byte other)
  | inl region ↦ elim (cases_Bool (lies_on index 2 (byte.offset / 8192))) [
    | inr off ↦
        let fit : class_objects class * class_size class ≤ 16256 = class_objects-fit class in
        outside_both (not_within (objects_range (granule_place index) class) index 2 byte refl (omega arith) (omega arith) off)
        (not_within (head_range (granule_place index) class) index 2 byte refl (omega arith) (omega arith) off)
        ∙ held_by-same layout next byte (sym (laid-outside layout index 2 (OfSlab (begun index class)) (byte.offset / 8192) off))
    | inl on ↦
        let fit : class_objects class * class_size class ≤ 16256 = class_objects-fit class in
        let bounds = lies_on-parts index 2 (byte.offset / 8192) on in
        elim (cases_lt (byte.offset - 8192 * index) (head_bytes class)) [
          | inl head ↦
              after_part-outside (after_part (held_by layout) (begin_head index class)) (begin_rest index class) byte
              (lies_in-not byte (objects_range (granule_place index) class) (λ inside. let low = (lies_in-parts byte (objects_range (granule_place index) class) inside).from in omega (arith, low, head)))
              ∙ after_part-inside (held_by layout) (begin_head index class) byte (lies_in-is byte (head_range (granule_place index) class) region (omega (arith, bounds)) (omega (arith, bounds)))
              ∙ sym (slab_holder-head (begun index class) (byte.offset - 8192 * index) head)
              ∙ sym (here region on)
          | inr behind ↦
              after_part-inside (after_part (held_by layout) (begin_head index class)) (begin_rest index class) byte (lies_in-is byte (objects_range (granule_place index) class) region (omega (arith, bounds)) (omega (arith, bounds)))
              ∙ sym (slab_holder-behind (begun index class) (byte.offset - 8192 * index) behind)
              ∙ sym (here region on)
        ]
  ]
]
  where
    next : Layout
    next = laid layout index 2 (OfSlab (begun index class))

    outside_both : lies_in byte (objects_range (granule_place index) class) ≡ false → lies_in byte (head_range (granule_place index) class) ≡ false →
        after_parts (held_by layout) (begin_head index class ∷ begin_rest index class ∷ []) byte ≡ held_by layout byte
    outside_both rest head =
        after_part-outside (after_part (held_by layout) (begin_head index class)) (begin_rest index class) byte rest
        ∙ after_part-outside (held_by layout) (begin_head index class) byte head

    here : same_region byte (at_offset 0) ≡ true → lies_on index 2 (byte.offset / 8192) ≡ true → held_by next byte ≡ slab_holder (begun index class) (byte.offset - 8192 * index)
    here region on = held_by-in next byte (OfSlab (begun index class)) region (laid-inside layout index 2 (OfSlab (begun index class)) (byte.offset / 8192) on)

-- a slab keeps its granules where others change
pub laid_elsewhere : (layout : Layout) (first granules : ℕ) (old next : Use) (slab : OwnSlab) → ((g : ℕ) → lies_on first granules g ≡ true → layout g ≡ old) → (old ≡ OfSlab slab → ⊥) →
    IsLaid layout slab → IsLaid (laid layout first granules next) slab
laid_elsewhere layout first granules old next slab all other laid_slab = record {
  class_is = laid_slab.class_is;
  few = laid_slab.few;
  even = laid_slab.even;
  inside = laid_slab.inside;
  whole = λ g on. laid-outside layout first granules next g (false_from_ne_true (lies_on first granules g) (λ in_range. other (sym (all g in_range) ∙ laid_slab.whole g on))) ∙ laid_slab.whole g on;
}

-- a slab begins with what is in hand
pub slab_begun : (state : State) (layout : Layout) (region : Region) (granted index class : ℕ) → class < 26 → index % 2 ≡ 0 → index + 2 ≤ 128 → IsAll layout InHand (slab_block index) →
    Knows state layout (Some region) granted → Does state (begin_step index class) (laid layout index 2 (OfSlab (begun index class))) (Some region) granted
slab_begun state layout region granted index class class_is even inside all knows =
    let fit : class_objects class * class_size class ≤ 16256 = class_objects-fit class in
    let two : 2 * class_size class ≤ class_objects class * class_size class = mul-le-mul_right (class_size class) (class_objects-least class class_is) in
    let least : 8 ≤ class_size class = class_size-least class class_is in
    record {
      made = record {
        whole = two_whole (begin_head index class) (begin_rest index class) (record { some = omega arith; ends = omega arith }) (record { some = omega arith; ends = omega arith });
        apart = two_apart (begin_head index class) (begin_rest index class) (omega arith);
        there = (
          record { lawful = refl; there = λ byte lies. in_hand byte (lies_within (head_range (granule_place index) class) (granules_range index 2) byte refl refl (omega arith) (omega arith) lies) },
          (record { lawful = refl; there = λ byte lies. in_hand byte (lies_within (objects_range (granule_place index) class) (granules_range index 2) byte refl refl (omega arith) (omega arith) lies) }, tt),
        );
        lawful = slab_begins (granule_place index) class class_is (slab_room state layout region granted index even inside (λ g on. ap is_plain (all g on)) knows);
      };
      quiet = (record { from = refl; to = refl; stays = refl; small = refl }, (record { from = refl; to = refl; stays = refl; small = refl }, tt));
      knows = record {
        held_is = λ byte. after_parts-at state.held (held_by layout) (begin_head index class ∷ begin_rest index class ∷ []) byte (knows.held_is byte) ∙ moved_begun layout index class byte;
        regions_are = knows.regions_are;
        next_is = knows.next_is;
        last_is = knows.last_is;
        in_book = λ s member. elim (Contains-push_cases state.book (slab_of index class) s member) [
          | inl old ↦
              let was = knows.in_book s old in
              record { own = was.own; laid_is = laid-outside layout index 2 (OfSlab (begun index class)) was.own.index (not_here was.own.index was.own was.laid_is) ∙ was.laid_is; is = was.is }
          | inr is ↦ record { own = begun index class; laid_is = laid-inside layout index 2 (OfSlab (begun index class)) index (on_slab index index (omega arith) (omega arith)); is = sym is }
        ];
        booked = λ granule s is. elim (cases_Bool (lies_on index 2 granule)) [
          | inl on ↦ subst (λ (o : OwnSlab). Contains (state.book ++ slab_of index class ∷ []) (slab_of o.index o.class)) (same_slab (begun index class) s (sym (laid-inside layout index 2 (OfSlab (begun index class)) granule on) ∙ is))
              (Contains-push state.book (slab_of index class))
          | inr off ↦ Contains-append_left state.book (slab_of index class ∷ []) (slab_of s.index s.class) (knows.booked granule s (sym (laid-outside layout index 2 (OfSlab (begun index class)) granule off) ∙ is))
        ];
        slabs_are = λ granule s is. elim (cases_Bool (lies_on index 2 granule)) [
          | inl on ↦ subst (λ (o : OwnSlab). IsLaid next o × (lies_on o.index 2 granule ≡ true)) (same_slab (begun index class) s (sym (laid-inside layout index 2 (OfSlab (begun index class)) granule on) ∙ is)) (new_laid, on)
          | inr off ↦
              let old = knows.slabs_are granule s (sym (laid-outside layout index 2 (OfSlab (begun index class)) granule off) ∙ is) in
              (laid_elsewhere layout index 2 InHand (OfSlab (begun index class)) s all (plain_no_slab InHand s refl) old.0, old.1)
        ];
      };
    }
  where
    next : Layout
    next = laid layout index 2 (OfSlab (begun index class))

    in_hand : (byte : Place) → lies_in byte (granules_range index 2) ≡ true → state.held byte ≡ Some (Hand 0)
    in_hand = granules_there state layout index 2 InHand (Some (Hand 0)) (λ offset. refl) knows.held_is all

    not_here : (granule : ℕ) (s : OwnSlab) → layout granule ≡ OfSlab s → lies_on index 2 granule ≡ false
    not_here granule s is = false_from_ne_true (lies_on index 2 granule) (λ on. plain_no_slab InHand s refl (sym (all granule on) ∙ is))

    new_laid : IsLaid next (begun index class)
    new_laid = record {
      class_is = class_is;
      few = omega arith;
      even = even;
      inside = inside;
      whole = λ g on. laid-inside layout index 2 (OfSlab (begun index class)) g on;
    }

-- parts that all go to one holder
pub all_to : (held : Holding) (parts : List Part) (to : Option Holder) (byte : Place) → Each (λ (part : Part). part.to ≡ to) parts →
    after_parts held parts byte ≡ (if lies_in_any byte parts then to else held byte)
all_to held [] to byte all = refl
all_to held (part ∷ parts) to byte (first, rest) = all_to (after_part held part) parts to byte rest ∙ by_test (lies_in_any byte parts) (lies_in byte part.range) first
  where
    by_test : (b c : Bool) → part.to ≡ to → (if b then to else (if c then part.to else held byte)) ≡ (if c || b then to else held byte)
    by_test true true is = refl
    by_test true false is = refl
    by_test false true is = is
    by_test false false is = refl

-- whether a byte lies in one of the parts, said in two ways
pub any_same : (byte : Place) (parts : List Part) → lies_in_parts byte parts ≡ lies_in_any byte parts
any_same byte [] = refl
any_same byte (part ∷ parts) = ap (λ b. lies_in byte part.range || b) (any_same byte parts)

-- the head of a slab that ends
abbrev pub end_head : OwnSlab → Part
end_head slab = part_of (head_range (granule_place slab.index) slab.class) (Some Head) (Some (Hand 0))

-- the parts of a slab that ends
abbrev pub end_parts : OwnSlab → List Part
end_parts slab = end_head slab ∷ some_part (rest_range slab) (Some Rest) (Some (Hand 0)) ++ some_part (handed_range slab) (Some Private) (Some (Hand 0))

-- how many bytes a slab's parts have
pub record SlabBytes (slab : OwnSlab) : Type 0 where
  pub fit : class_objects slab.class * class_size slab.class ≤ 16256
  pub sum : (class_objects slab.class - length slab.objects) * class_size slab.class + length slab.objects * class_size slab.class ≡ class_objects slab.class * class_size slab.class

pub slab_bytes : (slab : OwnSlab) → length slab.objects ≤ class_objects slab.class → SlabBytes slab
slab_bytes slab few = record { fit = class_objects-fit slab.class; sum = split (class_objects slab.class) (length slab.objects) (class_size slab.class) few }
  where
    split : (all some size : ℕ) → some ≤ all → (all - some) * size + some * size ≡ all * size
    split all some size le = let parts : (all - some) + some ≡ all = omega arith in sum_is (all - some) some size ∙ ap (λ n. n * size) parts
      where
        sum_is : (a b size : ℕ) → a * size + b * size ≡ (a + b) * size
        sum_is a b size = grind arith

-- its parts are all its bytes
pub end_covers : (slab : OwnSlab) (byte : Place) → length slab.objects ≤ class_objects slab.class → lies_in_any byte (end_parts slab) ≡ lies_in byte (granules_range slab.index 2)
end_covers slab byte few =
    let bytes = slab_bytes slab few in
    ap (λ b. lies_in byte (head_range (granule_place slab.index) slab.class) || b)
    (lies_in_any-append (some_part (rest_range slab) (Some Rest) (Some (Hand 0))) (some_part (handed_range slab) (Some Private) (Some (Hand 0))) byte
    ∙ ap (λ b. b || lies_in_any byte (some_part (handed_range slab) (Some Private) (Some (Hand 0)))) (lies_in_any-some_part (rest_range slab) (Some Rest) (Some (Hand 0)) byte)
    ∙ ap (λ b. lies_in byte (rest_range slab) || b) (lies_in_any-some_part (handed_range slab) (Some Private) (Some (Hand 0)) byte))
    ∙ three (same_region byte (at_offset 0)) byte.offset (8192 * slab.index) (class_objects slab.class * class_size slab.class)
    ((class_objects slab.class - length slab.objects) * class_size slab.class) (length slab.objects * class_size slab.class) bytes.fit bytes.sum
  where
    three : (s : Bool) (o a all rest handed : ℕ) → all ≤ 16256 → rest + handed ≡ all →
        ((s && nat_le a o && nat_lt o (a + (16384 - all)))
        || ((s && nat_le (a + (16384 - all)) o && nat_lt o (a + (16384 - all) + rest)) || (s && nat_le (a + (16384 - handed)) o && nat_lt o (a + (16384 - handed) + handed))))
        ≡ (s && nat_le a o && nat_lt o (a + 16384))
    three false o a all rest handed most sum = refl
    three true o a all rest handed most sum = grind (arith, nat_tests)

-- three parts of which the second and the third may have no bytes
pub three_whole : (head one other : Range) (from from' from'' to : Option Holder) → IsWhole head → (one.bytes ≢ 0 → IsWhole one) → (other.bytes ≢ 0 → IsWhole other) →
    Each (λ (part : Part). IsWhole part.range) (part_of head from to ∷ some_part one from' to ++ some_part other from'' to)
three_whole head one other from from' from'' to whole whole_one whole_other = by_test (one.bytes == 0) (other.bytes == 0) refl refl
  where
    by_test : (b c : Bool) → (one.bytes == 0) ≡ b → (other.bytes == 0) ≡ c →
        Each (λ (part : Part). IsWhole part.range) (part_of head from to ∷ (if b then [] else part_of one from' to ∷ []) ++ (if c then [] else part_of other from'' to ∷ []))
    by_test true true e f = (whole, tt)
    by_test true false e f = (whole, (whole_other (eqb-false other.bytes 0 f), tt))
    by_test false true e f = (whole, (whole_one (eqb-false one.bytes 0 e), tt))
    by_test false false e f = (whole, (whole_one (eqb-false one.bytes 0 e), (whole_other (eqb-false other.bytes 0 f), tt)))

pub three_apart : (head one other : Range) (from from' from'' to : Option Holder) → IsApart head one → IsApart head other → IsApart one other →
    AreApart (part_of head from to ∷ some_part one from' to ++ some_part other from'' to)
three_apart head one other from from' from'' to first second third = by_test (one.bytes == 0) (other.bytes == 0)
  where
    by_test : (b c : Bool) → AreApart (part_of head from to ∷ (if b then [] else part_of one from' to ∷ []) ++ (if c then [] else part_of other from'' to ∷ []))
    by_test true true = (tt, tt)
    by_test true false = ((second, tt), (tt, tt))
    by_test false true = ((first, tt), (tt, tt))
    by_test false false = ((first, (second, tt)), ((third, tt), (tt, tt)))

pub three_move : (held : Holding) (head one other : Range) (from from' from'' to : Option Holder) → CanMove 0 held (part_of head from to) → CanMove 0 held (part_of one from' to) →
    CanMove 0 held (part_of other from'' to) → CanMoveAll 0 held (part_of head from to ∷ some_part one from' to ++ some_part other from'' to)
three_move held head one other from from' from'' to first second third = by_test (one.bytes == 0) (other.bytes == 0)
  where
    by_test : (b c : Bool) → CanMoveAll 0 held (part_of head from to ∷ (if b then [] else part_of one from' to ∷ []) ++ (if c then [] else part_of other from'' to ∷ []))
    by_test true true = (first, tt)
    by_test true false = (first, (third, tt))
    by_test false true = (first, (second, tt))
    by_test false false = (first, (second, (third, tt)))

pub each_three : (P : Part → Type 0) (head one other : Range) (from from' from'' to : Option Holder) → P (part_of head from to) → P (part_of one from' to) → P (part_of other from'' to) →
    Each P (part_of head from to ∷ some_part one from' to ++ some_part other from'' to)
each_three P head one other from from' from'' to first second third =
    (first, each-append P (some_part one from' to) (some_part other from'' to) (each-some_part P one from' to second) (each-some_part P other from'' to third))
