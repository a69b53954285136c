-- The steps that move one object of a slab.
use Rattle.std.proofs.Common.{◌≡◌, ◌≢◌, ℕ, ◌+◌, ◌-◌, ◌*◌, ◌/◌, ◌<◌, ◌≤◌, Bool, true, false, not, List, [], length, None, sym, ◌∙◌, ap, arith, inl, inr, subst, filter}
use Rattle.std.specs.Prelude.{if◌then◌else◌, Contains, slice_get}
use Rattle.std.specs.List.{list_any}
use Rattle.std.specs.declared.option.Option.{Option}
use Rattle.std.proofs.lemmas.Bool.{cases_Bool, cases_lt, and_from, le-leb, lt-ltb}
use Rattle.pool_types.specs.declared.values.Place.{Place}
use Rattle.pool_types.specs.declared.values.Answer.{Answer}
use Rattle.pool_types.specs.declared.values.Region.{Region}
use Rattle.part_model.specs.declared.holders.Holder.{Holder}
use Rattle.part_model.specs.declared.moves.Range.{Range}
use Rattle.part_model.specs.declared.moves.Part.{Part}
use Rattle.part_model.specs.Holding.{same_region, lies_in, after_part, after_parts, IsWhole}
use Rattle.part_model.specs.Totals.{has_holder}
use Rattle.part_model.proofs.CallerLemmas.{after_parts-at, after_part-inside, after_part-outside, lies_in-parts, lies_in-is}
use Rattle.size_classes.specs.Classes.{class_size, class_objects}
use Rattle.size_classes.proofs.CallerLemmas.{class_size-least}
use Rattle.size_classes.specs.Layout.{head_bytes}
use Rattle.machine.specs.States.{State, Slab}
use Rattle.machine.specs.Ranges.{part_of, object_range}
use Rattle.machine.specs.Journal.{Nothing_seen, after_turn, last_after, goes}
use Rattle.plain_lists.specs.Lists.{OwnSlab, lies_on}
use Rattle.plain_lists.proofs.Granules.{lies_on-parts}
use Rattle.plain_runs.specs.Steps.{at_offset, slab_of, step_of}
use Rattle.plain_runs.proofs.Layouts.{Use, Away, InBin, InHand, InCache, OfSlab, Layout, held_as, object_with, slab_holder, holder_in, held_by, laid, IsLaid, IsBooked, Knows, one_more, some_bytes, HasByteOf, object_with-has, slab_holder-head, slab_holder-behind, slab_holder-object}
use Rattle.plain_runs.proofs.Moves.{laid-inside, laid-outside}

-- who holds a byte of the region by the use of its granule, and that of another region
pub held_by-in : (layout : Layout) (byte : Place) (use' : Use) → same_region byte (at_offset 0) ≡ true → layout (byte.offset / 8192) ≡ use' → held_by layout byte ≡ holder_in use' byte.offset
held_by-in layout byte use' region is =
    ap (λ (b : Bool). if b then holder_in (layout (byte.offset / 8192)) byte.offset else None) region ∙ ap (λ (u : Use). holder_in u byte.offset) is

pub held_by-out : (layout : Layout) (byte : Place) → same_region byte (at_offset 0) ≡ false → held_by layout byte ≡ None
held_by-out layout byte region = ap (λ (b : Bool). if b then holder_in (layout (byte.offset / 8192)) byte.offset else None) region

-- where layouts agree on the granule, they agree on the byte
pub held_by-same : (layout next : Layout) (byte : Place) → layout (byte.offset / 8192) ≡ next (byte.offset / 8192) → held_by layout byte ≡ held_by next byte
held_by-same layout next byte same = ap (λ (u : Use). if same_region byte (at_offset 0) then holder_in u byte.offset else None) same

-- the granules of a slab
pub on_slab : (index granule : ℕ) → index ≤ granule → granule < index + 2 → lies_on index 2 granule ≡ true
on_slab index granule least below = and_from _ _ (le-leb _ _ least) (lt-ltb _ _ below)

-- a use as a slab
abbrev pub slab_in : Use → OwnSlab → OwnSlab
slab_in (OfSlab slab) other = slab
slab_in Away other = other
slab_in InBin other = other
slab_in InHand other = other
slab_in InCache other = other

pub same_slab : (slab other : OwnSlab) → OfSlab slab ≡ OfSlab other → slab ≡ other
same_slab slab other same = ap (λ u. slab_in u other) same

-- the slab with these objects
abbrev pub with_objects : OwnSlab → List (Option ℕ) → List ℕ → OwnSlab
with_objects slab objects private = record { index = slab.index; class = slab.class; objects = objects; private = private }

-- where an object lies
abbrev pub own_range : OwnSlab → ℕ → Range
own_range slab object = object_range (slab_of slab.index slab.class) object

-- an object's bytes within its slab
pub record InObject (slab : OwnSlab) (object : ℕ) (byte : Place) : Type 0 where
  pub region : same_region byte (at_offset 0) ≡ true
  pub on : lies_on slab.index 2 (byte.offset / 8192) ≡ true
  pub least : 16384 - (object + 1) * class_size slab.class ≤ byte.offset - 8192 * slab.index
  pub most : byte.offset - 8192 * slab.index < 16384 - (object + 1) * class_size slab.class + class_size slab.class

pub in_object : (slab : OwnSlab) (object : ℕ) (byte : Place) → object < class_objects slab.class → lies_in byte (own_range slab object) ≡ true → InObject slab object byte
in_object slab object byte exists inside =
    let parts = lies_in-parts byte (own_range slab object) inside in
    let low = parts.from in
    let high = parts.below in
    let room : (object + 1) * class_size slab.class ≤ 16256 = some_bytes slab.class (object + 1) (omega arith) in
    let more : (object + 1) * class_size slab.class ≡ object * class_size slab.class + class_size slab.class = one_more object slab.class in
    record {
      region = parts.region;
      on = on_slab slab.index (byte.offset / 8192) (omega arith) (omega arith);
      least = omega arith;
      most = omega arith;
    }

-- who holds an object's bytes
pub object_there : (layout : Layout) (slab : OwnSlab) (object : ℕ) → IsLaid layout slab → object < class_objects slab.class → (byte : Place) → lies_in byte (own_range slab object) ≡ true →
    held_by layout byte ≡ held_as (slice_get slab.objects object)
object_there layout slab object laid_slab exists byte inside =
    let at = in_object slab object byte exists inside in
    held_by-in layout byte (OfSlab slab) at.region (laid_slab.whole (byte.offset / 8192) at.on)
    ∙ slab_holder-object slab object (byte.offset - 8192 * slab.index) laid_slab.class_is exists at.least at.most

-- the bytes of a slab beside an object
slab_byte_kept : (slab : OwnSlab) (objects : List (Option ℕ)) (private : List ℕ) (object : ℕ) (byte : Place) → slab.class < 26 →
    ((other : ℕ) → other ≢ object → slice_get objects other ≡ slice_get slab.objects other) → same_region byte (at_offset 0) ≡ true → lies_on slab.index 2 (byte.offset / 8192) ≡ true →
    lies_in byte (own_range slab object) ≡ false →
    slab_holder slab (byte.offset - 8192 * slab.index) ≡ slab_holder (with_objects slab objects private) (byte.offset - 8192 * slab.index)
slab_byte_kept slab objects private object byte exists same region on outside =
    let bounds = lies_on-parts slab.index 2 (byte.offset / 8192) on in
    elim (cases_lt (byte.offset - 8192 * slab.index) (head_bytes slab.class)) [
      | inl head ↦ slab_holder-head slab (byte.offset - 8192 * slab.index) head ∙ sym (slab_holder-head (with_objects slab objects private) (byte.offset - 8192 * slab.index) head)
      | inr behind ↦
          let has = object_with-has slab.class (byte.offset - 8192 * slab.index) exists behind (omega (arith, bounds)) in
          slab_holder-behind slab (byte.offset - 8192 * slab.index) behind
          ∙ ap held_as (sym (same (object_with slab.class (byte.offset - 8192 * slab.index)) (λ is. not_inside has is)))
          ∙ sym (slab_holder-behind (with_objects slab objects private) (byte.offset - 8192 * slab.index) behind)
    ]
  where
    not_inside : HasByteOf slab.class (byte.offset - 8192 * slab.index) (object_with slab.class (byte.offset - 8192 * slab.index)) → object_with slab.class (byte.offset - 8192 * slab.index) ≡ object → ⊥
    not_inside has is =
        let bounds = lies_on-parts slab.index 2 (byte.offset / 8192) on in
        let here : HasByteOf slab.class (byte.offset - 8192 * slab.index) object = subst (λ k. HasByteOf slab.class (byte.offset - 8192 * slab.index) k) is has in
        let low = here.least in
        let high = here.most in
        let inside : lies_in byte (own_range slab object) ≡ true = lies_in-is byte (own_range slab object) region (omega (arith, bounds)) (omega (arith, bounds)) in
        let clash : true ≡ false = sym inside ∙ outside in cc

-- an object goes from one state to another
pub moved_object : (layout : Layout) (slab : OwnSlab) (objects : List (Option ℕ)) (private : List ℕ) (object : ℕ) (from to : Option Holder) → IsLaid layout slab → object < class_objects slab.class →
    held_as (slice_get objects object) ≡ to → ((other : ℕ) → other ≢ object → slice_get objects other ≡ slice_get slab.objects other) → (byte : Place) →
    after_part (held_by layout) (part_of (own_range slab object) from to) byte ≡ held_by (laid layout slab.index 2 (OfSlab (with_objects slab objects private))) byte
moved_object layout slab objects private object from to laid_slab exists is same byte = elim (cases_Bool (lies_in byte (own_range slab object))) [
  | inl inside ↦
      let at = in_object slab object byte exists inside in
      after_part-inside (held_by layout) (part_of (own_range slab object) from to) byte inside
      ∙ sym is
      ∙ sym (slab_holder-object (with_objects slab objects private) object (byte.offset - 8192 * slab.index) laid_slab.class_is exists at.least at.most)
      ∙ sym (held_by-in next byte (OfSlab (with_objects slab objects private)) at.region (laid-inside layout slab.index 2 (OfSlab (with_objects slab objects private)) (byte.offset / 8192) at.on))
  | inr outside ↦ after_part-outside (held_by layout) (part_of (own_range slab object) from to) byte outside ∙ elim (cases_Bool (same_region byte (at_offset 0))) [
    | inr other ↦ held_by-out layout byte other ∙ sym (held_by-out next byte other)
    | inl region ↦ elim (cases_Bool (lies_on slab.index 2 (byte.offset / 8192))) [
      | inl on ↦
          held_by-in layout byte (OfSlab slab) region (laid_slab.whole (byte.offset / 8192) on)
          ∙ slab_byte_kept slab objects private object byte laid_slab.class_is same region on outside
          ∙ sym (held_by-in next byte (OfSlab (with_objects slab objects private)) region (laid-inside layout slab.index 2 (OfSlab (with_objects slab objects private)) (byte.offset / 8192) on))
      | inr off ↦ held_by-same layout next byte (sym (laid-outside layout slab.index 2 (OfSlab (with_objects slab objects private)) (byte.offset / 8192) off))
    ]
  ]
]
  where
    next : Layout
    next = laid layout slab.index 2 (OfSlab (with_objects slab objects private))

-- what is known once a slab's objects changed
pub knows_changed : (state : State) (layout : Layout) (region : Option Region) (granted granted' : ℕ) (slab : OwnSlab) (objects : List (Option ℕ)) (private : List ℕ) (parts : List Part) (answer : Option Answer) →
    IsLaid layout slab → length objects ≤ class_objects slab.class →
    ((byte : Place) → after_parts (held_by layout) parts byte ≡ held_by (laid layout slab.index 2 (OfSlab (with_objects slab objects private))) byte) →
    list_any (λ (part : Part). not (has_holder part.to)) parts ≡ false → last_after state.last 0 parts 0 ≡ granted' → Knows state layout region granted →
    Knows (after_turn state (step_of parts [] None Nothing_seen answer)) (laid layout slab.index 2 (OfSlab (with_objects slab objects private))) region granted'
knows_changed state layout region granted granted' slab objects private parts answer laid_slab few moved none_leaves last knows = record {
  held_is = λ byte. after_parts-at state.held (held_by layout) parts byte (knows.held_is byte) ∙ moved byte;
  regions_are = ap (λ (b : Bool). if b then filter (λ r. not (goes parts r)) state.regions else state.regions) none_leaves ∙ knows.regions_are;
  next_is = knows.next_is;
  last_is = last;
  in_book = λ s member. book_kept s (knows.in_book s member);
  booked = λ granule s is. elim (cases_Bool (lies_on slab.index 2 granule)) [
    | inl on ↦ subst (λ (o : OwnSlab). Contains state.book (slab_of o.index o.class)) (same_slab changed s (sym (laid-inside layout slab.index 2 (OfSlab changed) granule on) ∙ is))
        (knows.booked granule slab (laid_slab.whole granule on))
    | inr off ↦ knows.booked granule s (sym (laid-outside layout slab.index 2 (OfSlab changed) granule off) ∙ is)
  ];
  slabs_are = λ granule s is. elim (cases_Bool (lies_on slab.index 2 granule)) [
    | inl on ↦ subst (λ (o : OwnSlab). IsLaid next o × (lies_on o.index 2 granule ≡ true)) (same_slab changed s (sym (laid-inside layout slab.index 2 (OfSlab changed) granule on) ∙ is)) (changed_laid, on)
    | inr off ↦
        let old = knows.slabs_are granule s (sym (laid-outside layout slab.index 2 (OfSlab changed) granule off) ∙ is) in
        (other_laid granule s off old.0 old.1, old.1)
  ];
}
  where
    changed : OwnSlab
    changed = with_objects slab objects private

    next : Layout
    next = laid layout slab.index 2 (OfSlab (with_objects slab objects private))

    first_on : lies_on slab.index 2 slab.index ≡ true
    first_on = on_slab slab.index slab.index (omega arith) (omega arith)

    changed_laid : IsLaid next changed
    changed_laid = record {
      class_is = laid_slab.class_is;
      few = few;
      even = laid_slab.even;
      inside = laid_slab.inside;
      whole = λ g on. laid-inside layout slab.index 2 (OfSlab changed) g on;
    }

    other_laid : (granule : ℕ) (s : OwnSlab) → lies_on slab.index 2 granule ≡ false → IsLaid layout s → lies_on s.index 2 granule ≡ true → IsLaid next s
    other_laid granule s off old here = record {
      class_is = old.class_is;
      few = old.few;
      even = old.even;
      inside = old.inside;
      whole = λ g on. elim (cases_Bool (lies_on slab.index 2 g)) [
        | inr out ↦ laid-outside layout slab.index 2 (OfSlab changed) g out ∙ old.whole g on
        | inl in_slab ↦ absurd (
            let same : s ≡ slab = same_slab s slab (sym (old.whole g on) ∙ laid_slab.whole g in_slab) in
            let clash : true ≡ false = sym (ap (λ (o : OwnSlab). lies_on o.index 2 granule) (sym same) ∙ here) ∙ off in cc)
      ];
    }

    book_kept : (s : Slab) → IsBooked layout s → IsBooked next s
    book_kept s old = elim (cases_Bool (lies_on slab.index 2 old.own.index)) [
      | inl on ↦
          let same : old.own ≡ slab = same_slab old.own slab (sym old.laid_is ∙ laid_slab.whole old.own.index on) in
          record { own = changed; laid_is = laid-inside layout slab.index 2 (OfSlab changed) slab.index first_on; is = old.is ∙ ap (λ (o : OwnSlab). slab_of o.index o.class) same }
      | inr off ↦ record { own = old.own; laid_is = laid-outside layout slab.index 2 (OfSlab changed) old.own.index off ∙ old.laid_is; is = old.is }
    ]

-- an object's range is whole
pub object_whole : (slab : OwnSlab) (object : ℕ) → slab.class < 26 → slab.index + 2 ≤ 128 → object < class_objects slab.class → IsWhole (own_range slab object)
object_whole slab object class_is inside exists =
    let fits : (object + 1) * class_size slab.class ≤ 16256 = some_bytes slab.class (object + 1) (omega arith) in
    let more : (object + 1) * class_size slab.class ≡ object * class_size slab.class + class_size slab.class = one_more object slab.class in
    let least : 8 ≤ class_size slab.class = class_size-least slab.class class_is in
    record { some = omega arith; ends = omega arith }
