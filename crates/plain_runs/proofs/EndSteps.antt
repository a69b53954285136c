-- The step with which a slab ends.
use Rattle.std.proofs.Common.{◌≡◌, ℕ, ◌+◌, ◌-◌, ◌*◌, ◌/◌, ◌<◌, ◌≤◌, Bool, true, false, not, ◌&&◌, [], ◌∷◌, length, Some, None, refl, sym, ◌∙◌, ap, arith, inl, inr, filter}
use Rattle.std.specs.Prelude.{if◌then◌else◌, slice_get, ◌==◌}
use Rattle.std.proofs.lemmas.Bool.{cases_Bool, cases_lt, eqb-true, eq-eqb, and_parts, false_from_ne_true}
use Rattle.std.proofs.lemmas.Option.{slice_get_past}
use Rattle.std.proofs.Math.Nat.{mul-le-mul_right}
use Rattle.pool_types.specs.declared.values.Place.{Place}
use Rattle.pool_types.specs.declared.values.Region.{Region}
use Rattle.part_model.specs.declared.holders.Holder.TheVariants.{Head, Rest, Private, Hand}
use Rattle.part_model.specs.declared.moves.Range.{Range}
use Rattle.part_model.specs.declared.moves.Part.{Part}
use Rattle.part_model.specs.Holding.{same_region, lies_in, IsWhole, AreApart, CanMoveAll}
use Rattle.part_model.proofs.CallerLemmas.{after_parts-at, lies_in-parts, same_region-parts, apart_before}
use Rattle.size_classes.specs.Classes.{class_size, class_objects}
use Rattle.size_classes.specs.Layout.{head_bytes}
use Rattle.machine.specs.States.{State, Slab}
use Rattle.machine.specs.Ranges.{Each, head_range, same_place}
use Rattle.machine.specs.Journal.{Leaves as Gone, goes}
use Rattle.machine.specs.Lawful.{slab_ends, TakesOfSlab}
use Rattle.machine.proofs.CallerLemmas.{each-all, lies_within}
use Rattle.plain_lists.specs.Lists.{OwnSlab, lies_on}
use Rattle.list_laws.proofs.Members.{Contains-filter, Contains-filter_from}
use Rattle.plain_runs.specs.Steps.{at_offset, granule_place, slab_of, end_step, rest_range, handed_range}
use Rattle.plain_runs.proofs.Layouts.{InHand, OfSlab, Layout, held_as, object_with, slab_holder, held_by, laid, IsLaid, IsBooked, Knows, some_bytes, one_more, HasByteOf, object_with-has, slab_holder-head, slab_holder-behind}
use Rattle.plain_runs.proofs.Moves.{granules_range, moved_laid, plain_no_slab, laid-inside, laid-outside, IsQuiet}
use Rattle.plain_runs.proofs.GranuleSteps.{Leaves, quiet_to, quiet_stays}
use Rattle.plain_runs.proofs.ObjectSteps.{held_by-in, on_slab, same_slab}
use Rattle.plain_runs.proofs.SlabSteps.{all_to, any_same, end_parts, slab_bytes, end_covers, three_whole, three_apart, three_move, each_three, laid_elsewhere}

-- all objects that were handed out are private
abbrev pub AllPrivate : OwnSlab → Type 0
AllPrivate slab = (object : ℕ) → object < length slab.objects → slice_get slab.objects object ≡ Some None

-- a byte of a slab of the layout
pub slab_byte : (layout : Layout) (slab : OwnSlab) (byte : Place) → IsLaid layout slab → lies_in byte (granules_range slab.index 2) ≡ true →
    held_by layout byte ≡ slab_holder slab (byte.offset - 8192 * slab.index)
slab_byte layout slab byte laid_slab inside =
    let parts = lies_in-parts byte (granules_range slab.index 2) inside in
    let from = parts.from in
    let below = parts.below in
    held_by-in layout byte (OfSlab slab) parts.region (laid_slab.whole (byte.offset / 8192) (on_slab slab.index (byte.offset / 8192) (omega arith) (omega arith)))

-- the object of a byte was handed out, or not
pub not_handed : (slab : OwnSlab) (within : ℕ) → HasByteOf slab.class within (object_with slab.class within) → length slab.objects ≤ class_objects slab.class →
    within + length slab.objects * class_size slab.class < 16384 → length slab.objects ≤ object_with slab.class within
not_handed slab within has few below = elim (cases_lt (object_with slab.class within) (length slab.objects)) [
  | inr least ↦ least
  | inl less ↦ absurd (
      let low = has.least in
      let more : (object_with slab.class within + 1) * class_size slab.class ≤ length slab.objects * class_size slab.class = mul-le-mul_right (class_size slab.class) (let step : object_with slab.class within + 1 ≤ length slab.objects = omega arith in step) in
      let most : length slab.objects * class_size slab.class ≤ 16256 = some_bytes slab.class (length slab.objects) few in
      omega arith)
]

pub handed_out : (slab : OwnSlab) (within : ℕ) → HasByteOf slab.class within (object_with slab.class within) → length slab.objects ≤ class_objects slab.class →
    16384 ≤ within + length slab.objects * class_size slab.class → object_with slab.class within < length slab.objects
handed_out slab within has few least = elim (cases_lt (object_with slab.class within) (length slab.objects)) [
  | inl less ↦ less
  | inr above ↦ absurd (
      let high = has.most in
      let exists = has.exists in
      let more : length slab.objects * class_size slab.class ≤ object_with slab.class within * class_size slab.class = mul-le-mul_right (class_size slab.class) above in
      let next : (object_with slab.class within + 1) * class_size slab.class ≡ object_with slab.class within * class_size slab.class + class_size slab.class = one_more (object_with slab.class within) slab.class in
      let most : (object_with slab.class within + 1) * class_size slab.class ≤ 16256 = some_bytes slab.class (object_with slab.class within + 1) (omega arith) in
      omega arith)
]

-- a slab ends, all of whose objects are private or were not handed out
pub slab_ended : (state : State) (layout : Layout) (region : Region) (granted : ℕ) (slab : OwnSlab) → IsLaid layout slab → AllPrivate slab →
    Knows state layout (Some region) granted → Leaves state (end_step slab) (laid layout slab.index 2 InHand) (Some region) granted
slab_ended state layout region granted slab laid_slab private knows = record {
  step = record {
    parts = end_parts slab;
    book = Gone (granule_place slab.index) ∷ [];
    is = refl;
    made = record {
      whole = each-all (λ (part : Part). IsWhole part.range) (end_parts slab) whole;
      apart = apart;
      there = there;
      lawful = slab_ends (slab_of slab.index slab.class) (end_parts slab) (knows.booked slab.index slab (laid_slab.whole slab.index (first_on slab.index)), refl) (record {
        each = takes;
        whole = λ byte inside. any_same byte (end_parts slab) ∙ end_covers slab byte laid_slab.few ∙ inside;
      });
    };
    quiet = quiet;
    slabs = λ s call. tt;
  };
  knows = record {
    held_is = λ byte. after_parts-at state.held (held_by layout) (end_parts slab) byte (knows.held_is byte)
        ∙ all_to (held_by layout) (end_parts slab) (Some (Hand 0)) byte to_hand
        ∙ ap (λ (b : Bool). if b then Some (Hand 0) else held_by layout byte) (end_covers slab byte laid_slab.few)
        ∙ moved_laid layout slab.index 2 None (Some (Hand 0)) InHand (λ offset. refl) byte;
    regions_are = ap (λ (b : Bool). if b then filter (λ r. not (goes (end_parts slab) r)) state.regions else state.regions) (quiet_stays (end_parts slab) quiet) ∙ knows.regions_are;
    next_is = knows.next_is;
    last_is = ap (λ (b : Bool). if b && (0 == 0) then state.last 0 + 1 else state.last 0) (quiet_to (end_parts slab) quiet) ∙ knows.last_is;
    in_book = λ s member.
        let both = Contains-filter (λ (s : Slab). not (same_place s.place (granule_place slab.index))) state.book s member in
        book_left s (knows.in_book s both.0) both.1;
    booked = λ granule s is.
        let old = old_use granule s is in
        Contains-filter_from (λ (s : Slab). not (same_place s.place (granule_place slab.index))) state.book (slab_of s.index s.class) (knows.booked granule s old.0)
        (ap not (false_from_ne_true (same_place (granule_place s.index) (granule_place slab.index)) (λ same. other_place granule s old.0 old.1 same)));
    slabs_are = λ granule s is.
        let old = old_use granule s is in
        let was = knows.slabs_are granule s old.0 in
        (other_laid granule s old.1 was.0 was.1, was.1);
  };
}
  where
    first_on : (index : ℕ) → lies_on index 2 index ≡ true
    first_on index = on_slab index index (omega arith) (omega arith)

    whole : Each (λ (part : Part). IsWhole part.range) (end_parts slab)
    whole =
        let bytes = slab_bytes slab laid_slab.few in
        let fit = bytes.fit in
        let sum = bytes.sum in
        let inside = laid_slab.inside in
        three_whole (head_range (granule_place slab.index) slab.class) (rest_range slab) (handed_range slab) (Some Head) (Some Rest) (Some Private) (Some (Hand 0))
        (record { some = omega arith; ends = omega arith })
        (λ some. record { some = omega arith; ends = omega arith })
        (λ some. record { some = omega arith; ends = omega arith })

    apart : AreApart (end_parts slab)
    apart =
        let bytes = slab_bytes slab laid_slab.few in
        let fit = bytes.fit in
        let sum = bytes.sum in
        three_apart (head_range (granule_place slab.index) slab.class) (rest_range slab) (handed_range slab) (Some Head) (Some Rest) (Some Private) (Some (Hand 0))
        (apart_before (head_range (granule_place slab.index) slab.class) (rest_range slab) (omega arith))
        (apart_before (head_range (granule_place slab.index) slab.class) (handed_range slab) (omega arith))
        (apart_before (rest_range slab) (handed_range slab) (omega arith))

    in_slab : (range : Range) (byte : Place) → same_region range.place (at_offset 0) ≡ true → 8192 * slab.index ≤ range.place.offset → range.place.offset + range.bytes ≤ 8192 * slab.index + 16384 →
        lies_in byte range ≡ true → lies_in byte (granules_range slab.index 2) ≡ true
    in_slab range byte here low high inside =
        let both = same_region-parts range.place (at_offset 0) here in
        lies_within range (granules_range slab.index 2) byte both.0 both.1 low (omega arith) inside

    there : CanMoveAll 0 state.held (end_parts slab)
    there =
        let bytes = slab_bytes slab laid_slab.few in
        let fit = bytes.fit in
        let sum = bytes.sum in
        three_move state.held (head_range (granule_place slab.index) slab.class) (rest_range slab) (handed_range slab) (Some Head) (Some Rest) (Some Private) (Some (Hand 0))
        (record {
          lawful = refl;
          there = λ byte lies.
              let parts = lies_in-parts byte (head_range (granule_place slab.index) slab.class) lies in
              let low = parts.from in
              let high = parts.below in
              knows.held_is byte ∙ slab_byte layout slab byte laid_slab (in_slab (head_range (granule_place slab.index) slab.class) byte refl (omega arith) (omega arith) lies)
              ∙ slab_holder-head slab (byte.offset - 8192 * slab.index) (omega arith);
        })
        (record {
          lawful = refl;
          there = λ byte lies.
              let parts = lies_in-parts byte (rest_range slab) lies in
              let low = parts.from in
              let high = parts.below in
              let behind : head_bytes slab.class ≤ byte.offset - 8192 * slab.index = omega arith in
              let has = object_with-has slab.class (byte.offset - 8192 * slab.index) laid_slab.class_is behind (omega arith) in
              knows.held_is byte ∙ slab_byte layout slab byte laid_slab (in_slab (rest_range slab) byte refl (omega arith) (omega arith) lies)
              ∙ slab_holder-behind slab (byte.offset - 8192 * slab.index) behind
              ∙ ap held_as (slice_get_past slab.objects (object_with slab.class (byte.offset - 8192 * slab.index)) (not_handed slab (byte.offset - 8192 * slab.index) has laid_slab.few (omega arith)));
        })
        (record {
          lawful = refl;
          there = λ byte lies.
              let parts = lies_in-parts byte (handed_range slab) lies in
              let low = parts.from in
              let high = parts.below in
              let behind : head_bytes slab.class ≤ byte.offset - 8192 * slab.index = omega arith in
              let has = object_with-has slab.class (byte.offset - 8192 * slab.index) laid_slab.class_is behind (omega arith) in
              knows.held_is byte ∙ slab_byte layout slab byte laid_slab (in_slab (handed_range slab) byte refl (omega arith) (omega arith) lies)
              ∙ slab_holder-behind slab (byte.offset - 8192 * slab.index) behind
              ∙ ap held_as (private (object_with slab.class (byte.offset - 8192 * slab.index)) (handed_out slab (byte.offset - 8192 * slab.index) has laid_slab.few (omega arith)));
        })

    takes : Each (TakesOfSlab (slab_of slab.index slab.class) 0) (end_parts slab)
    takes =
        let bytes = slab_bytes slab laid_slab.few in
        let fit = bytes.fit in
        let sum = bytes.sum in
        each_three (TakesOfSlab (slab_of slab.index slab.class) 0) (head_range (granule_place slab.index) slab.class) (rest_range slab) (handed_range slab) (Some Head) (Some Rest) (Some Private) (Some (Hand 0))
        (record { inside = λ byte lies. in_slab (head_range (granule_place slab.index) slab.class) byte refl (omega arith) (omega arith) lies; of_slab = refl; to_hand = refl })
        (record { inside = λ byte lies. in_slab (rest_range slab) byte refl (omega arith) (omega arith) lies; of_slab = refl; to_hand = refl })
        (record { inside = λ byte lies. in_slab (handed_range slab) byte refl (omega arith) (omega arith) lies; of_slab = refl; to_hand = refl })

    quiet : Each IsQuiet (end_parts slab)
    quiet = each_three IsQuiet (head_range (granule_place slab.index) slab.class) (rest_range slab) (handed_range slab) (Some Head) (Some Rest) (Some Private) (Some (Hand 0))
        (record { from = refl; to = refl; stays = refl; small = refl }) (record { from = refl; to = refl; stays = refl; small = refl }) (record { from = refl; to = refl; stays = refl; small = refl })

    to_hand : Each (λ (part : Part). part.to ≡ Some (Hand 0)) (end_parts slab)
    to_hand = each_three (λ (part : Part). part.to ≡ Some (Hand 0)) (head_range (granule_place slab.index) slab.class) (rest_range slab) (handed_range slab) (Some Head) (Some Rest) (Some Private) (Some (Hand 0)) refl refl refl

    old_use : (granule : ℕ) (s : OwnSlab) → laid layout slab.index 2 InHand granule ≡ OfSlab s → (layout granule ≡ OfSlab s) × (lies_on slab.index 2 granule ≡ false)
    old_use granule s is = elim (cases_Bool (lies_on slab.index 2 granule)) [
      | inl on ↦ absurd (plain_no_slab InHand s refl (sym (laid-inside layout slab.index 2 InHand granule on) ∙ is))
      | inr off ↦ (sym (laid-outside layout slab.index 2 InHand granule off) ∙ is, off)
    ]

    book_left : (s : Slab) → IsBooked layout s → not (same_place s.place (granule_place slab.index)) ≡ true → IsBooked (laid layout slab.index 2 InHand) s
    book_left s old other = elim (cases_Bool (lies_on slab.index 2 old.own.index)) [
      | inl on ↦ absurd (
          let same : old.own ≡ slab = same_slab old.own slab (sym old.laid_is ∙ laid_slab.whole old.own.index on) in
          let place : s.place ≡ granule_place slab.index = ap (λ (x : Slab). x.place) old.is ∙ ap (λ (o : OwnSlab). granule_place o.index) same in
          let equal : same_place (granule_place slab.index) (granule_place slab.index) ≡ true = eq-eqb (8192 * slab.index) (8192 * slab.index) refl in
          let clash : false ≡ true = sym (ap not (ap (λ p. same_place p (granule_place slab.index)) place ∙ equal)) ∙ other in cc)
      | inr off ↦ record { own = old.own; laid_is = laid-outside layout slab.index 2 InHand old.own.index off ∙ old.laid_is; is = old.is }
    ]

    other_place : (granule : ℕ) (s : OwnSlab) → layout granule ≡ OfSlab s → lies_on slab.index 2 granule ≡ false → same_place (granule_place s.index) (granule_place slab.index) ≡ true → ⊥
    other_place granule s is off same =
        let both = and_parts (same_region (granule_place s.index) (granule_place slab.index)) (8192 * s.index == 8192 * slab.index) same in
        let equal : 8192 * s.index ≡ 8192 * slab.index = eqb-true (8192 * s.index) (8192 * slab.index) both.1 in
        let index : s.index ≡ slab.index = omega arith in
        let was = knows.slabs_are granule s is in
        let there = was.0.whole s.index (first_on s.index) in
        let here : layout s.index ≡ OfSlab slab = laid_slab.whole s.index (ap (λ i. lies_on slab.index 2 i) index ∙ first_on slab.index) in
        let one : s ≡ slab = same_slab s slab (sym there ∙ here) in
        let clash : true ≡ false = sym (ap (λ (o : OwnSlab). lies_on o.index 2 granule) (sym one) ∙ was.1) ∙ off in cc

    other_laid : (granule : ℕ) (s : OwnSlab) → lies_on slab.index 2 granule ≡ false → IsLaid layout s → lies_on s.index 2 granule ≡ true → IsLaid (laid layout slab.index 2 InHand) s
    other_laid granule s off old here = laid_elsewhere layout slab.index 2 (OfSlab slab) InHand s laid_slab.whole
        (λ same. let clash : true ≡ false = sym (ap (λ (o : OwnSlab). lies_on o.index 2 granule) (same_slab slab s same) ∙ here) ∙ off in cc) old
