-- The objects that are held, in the lists and in the partition.
use Rattle.std.proofs.Common.{◌≡◌, ℕ, ◌+◌, ◌-◌, ◌*◌, ◌/◌, ◌%◌, ◌<◌, ◌≤◌, true, false, nat_lt, List, [], ◌∷◌, length, Some, None, refl, sym, ◌∙◌, ap, arith, inl, inr, subst, lit<}
use Rattle.std.specs.Prelude.{Contains, slice_get, is_some, ◌==◌}
use Rattle.std.specs.declared.option.Option.{Option}
use Rattle.std.proofs.lemmas.Bool.{cases_lt, cases_Bool, and_parts, and_from, eqb-true, eq-eqb, ltb-true, lt-ltb}
use Rattle.std.proofs.lemmas.Option.{slice_get_within}
use Rattle.pool_types.specs.declared.values.Place.{Place}
use Rattle.pool_types.specs.declared.values.Grant.{Grant}
use Rattle.pool_types.specs.declared.values.Region.{Region}
use Rattle.pool_types.specs.declared.policy.RegionRec.{RegionRec}
use Rattle.part_model.specs.declared.holders.Holder.{Holder}
use Rattle.part_model.specs.declared.holders.Holder.TheVariants.{Head, Object, SlabCache, Bin}
use Rattle.part_model.specs.Holding.{same_region, lies_in}
use Rattle.part_model.proofs.CallerLemmas.{lies_in-is, lies_in-parts, same_region-parts, same_region-is}
use Rattle.size_classes.specs.Classes.{class_size, class_objects}
use Rattle.size_classes.proofs.CallerLemmas.{class_size-least}
use Rattle.size_classes.specs.Layout.{head_bytes}
use Rattle.machine.specs.States.{State, fixed_terms}
use Rattle.machine.specs.Answers.{BeginsAt, IsObject, IsUnit}
use Rattle.plain_lists.specs.Lists.{OwnSlab, Lists, lies_on}
use Rattle.plain_lists.specs.Whole.{Spot, grant_of, place_at, spot_at, is_unit}
use Rattle.plain_lists.specs.Good.{IsHeld}
use Rattle.list_laws.proofs.Members.{Contains-none, Contains-single}
use Rattle.plain_lists.proofs.Beside.{beside_none}
use Rattle.plain_lists.proofs.ObjectPlaces.{held_found}
use Rattle.plain_lists.proofs.Granules.{lies_on-parts}
use Rattle.plain_runs.specs.Steps.{one_region, at_offset}
use Rattle.plain_runs.proofs.Layouts.{Use, Away, InBin, InCache, OfSlab, regions_of, held_as, object_with, holder_in, IsLaid, HasByteOf, object_with-has, slab_holder-head, slab_holder-behind}
use Rattle.plain_runs.proofs.ObjectSteps.{on_slab, held_by-in, held_by-out, own_range, object_there}
use Rattle.plain_runs.proofs.LaidOut.{Holds, UseOf, none_has, slab_has, stored_has, block_has, use_of}

-- the byte is in an object that is held under the grant
pub record GrantByte (lists : Lists) (byte : Place) (grant : Grant) : Type 0 where
  pub slab : OwnSlab
  pub object : ℕ
  pub number : ℕ
  pub member : Contains lists.slabs slab
  pub held : IsHeld slab object number
  pub is : grant ≡ grant_of number
  pub region : same_region byte (at_offset 0) ≡ true
  pub on : lies_on slab.index 2 (byte.offset / 8192) ≡ true
  pub least : 16384 - (object + 1) * class_size slab.class ≤ byte.offset - 8192 * slab.index
  pub most : byte.offset - 8192 * slab.index < 16384 - (object + 1) * class_size slab.class + class_size slab.class

-- the grant of a holder
abbrev pub grant_in : Option Holder → Grant → Grant
grant_in (Some (Object grant)) other = grant
grant_in holder other = other

-- a slab of the lists is laid
pub listed_laid : (state : State) (lists : Lists) (holds : Holds state lists) (slab : OwnSlab) → Contains lists.slabs slab → IsLaid holds.layout slab
listed_laid state lists holds slab member =
    (holds.knows.slabs_are slab.index slab (holds.lays.slabs_are slab member slab.index (on_slab slab.index slab.index (omega arith) (omega arith)))).0

pub grant_byte : (state : State) (lists : Lists) → Holds state lists → (byte : Place) (grant : Grant) → state.held byte ≡ Some (Object grant) → GrantByte lists byte grant
grant_byte state lists holds byte grant is = elim (cases_Bool (same_region byte (at_offset 0))) [
  | inr other ↦ absurd (let clash : None ≡ Some (Object grant) = sym (held_by-out holds.layout byte other) ∙ sym (holds.knows.held_is byte) ∙ is in cc)
  | inl region ↦ by_use region (use_of lists holds.layout holds.good holds.lays (byte.offset / 8192))
]
  where
    at : same_region byte (at_offset 0) ≡ true → (use' : Use) → holds.layout (byte.offset / 8192) ≡ use' → holder_in use' byte.offset ≡ Some (Object grant)
    at region use' u = sym (held_by-in holds.layout byte use' region u) ∙ sym (holds.knows.held_is byte) ∙ is

    in_slab : same_region byte (at_offset 0) ≡ true → (slab : OwnSlab) → Contains lists.slabs slab → lies_on slab.index 2 (byte.offset / 8192) ≡ true →
        HasByteOf slab.class (byte.offset - 8192 * slab.index) (object_with slab.class (byte.offset - 8192 * slab.index)) →
        (got : Option (Option ℕ)) → slice_get slab.objects (object_with slab.class (byte.offset - 8192 * slab.index)) ≡ got → held_as got ≡ Some (Object grant) → GrantByte lists byte grant
    in_slab region slab member on has (Some (Some number)) got same = record {
      slab = slab;
      object = object_with slab.class (byte.offset - 8192 * slab.index);
      number = number;
      member = member;
      held = got;
      is = sym (ap (λ h. grant_in h grant) same);
      region = region;
      on = on;
      least = has.least;
      most = has.most;
    }
    in_slab region slab member on has (Some None) got same = absurd (let clash = same in cc)
    in_slab region slab member on has None got same = absurd (let clash = same in cc)

    by_use : same_region byte (at_offset 0) ≡ true → UseOf lists holds.layout (byte.offset / 8192) → GrantByte lists byte grant
    by_use region (none_has u) = absurd (let clash : None ≡ Some (Object grant) = at region Away u in cc)
    by_use region (stored_has index member on u) = absurd (let clash : Some (SlabCache 0) ≡ Some (Object grant) = at region InCache u in cc)
    by_use region (block_has block member on u) = absurd (let clash : Some Bin ≡ Some (Object grant) = at region InBin u in cc)
    by_use region (slab_has slab member on u) = elim (cases_lt (byte.offset - 8192 * slab.index) (head_bytes slab.class)) [
      | inl head ↦ absurd (let clash : Some Head ≡ Some (Object grant) = sym (slab_holder-head slab (byte.offset - 8192 * slab.index) head) ∙ at region (OfSlab slab) u in cc)
      | inr behind ↦
          let bounds = lies_on-parts slab.index 2 (byte.offset / 8192) on in
          in_slab region slab member on (object_with-has slab.class (byte.offset - 8192 * slab.index) (holds.good.slabs_are slab member).class_is behind (omega (arith, bounds)))
          (slice_get slab.objects (object_with slab.class (byte.offset - 8192 * slab.index))) refl (sym (slab_holder-behind slab (byte.offset - 8192 * slab.index) behind) ∙ at region (OfSlab slab) u)
    ]

-- a held object exists
pub held_exists : (state : State) (lists : Lists) (holds : Holds state lists) (slab : OwnSlab) (object number : ℕ) → Contains lists.slabs slab → IsHeld slab object number → object < class_objects slab.class
held_exists state lists holds slab object number member held =
    let below : object < length slab.objects = slice_get_within slab.objects object (Some number) held in
    let few = (holds.good.slabs_are slab member).few in
    omega arith

-- each byte of an object that is held is its
pub object_held : (state : State) (lists : Lists) (holds : Holds state lists) (slab : OwnSlab) (object number : ℕ) → Contains lists.slabs slab → IsHeld slab object number → (byte : Place) →
    lies_in byte (own_range slab object) ≡ true → state.held byte ≡ Some (Object (grant_of number))
object_held state lists holds slab object number member held byte inside =
    holds.knows.held_is byte ∙ object_there holds.layout slab object (listed_laid state lists holds slab member) (held_exists state lists holds slab object number member held) byte inside ∙ ap held_as held

-- a byte that is held under the same grant is in the object
pub same_object : (state : State) (lists : Lists) (holds : Holds state lists) (slab : OwnSlab) (object number : ℕ) → Contains lists.slabs slab → IsHeld slab object number → (byte : Place) →
    state.held byte ≡ Some (Object (grant_of number)) → lies_in byte (own_range slab object) ≡ true
same_object state lists holds slab object number member held byte is =
    let found = grant_byte state lists holds byte (grant_of number) is in
    let numbers : number ≡ found.number = ap (λ (g : Grant). g.number) found.is in
    let same = holds.good.apart slab found.slab object found.object number member found.member held (subst (λ n. IsHeld found.slab found.object n) (sym numbers) found.held) in
    let P : OwnSlab → ℕ → Type 0 = λ s k. (lies_on s.index 2 (byte.offset / 8192) ≡ true) × (16384 - (k + 1) * class_size s.class ≤ byte.offset - 8192 * s.index) × (byte.offset - 8192 * s.index < 16384 - (k + 1) * class_size s.class + class_size s.class) in
    let there : P slab object = subst (λ s. P s object) (sym same.0) (subst (λ k. P found.slab k) (sym same.1) (found.on, found.least, found.most)) in
    let bounds = lies_on-parts slab.index 2 (byte.offset / 8192) there.0 in
    let low = there.1 in
    let high = there.2 in
    lies_in-is byte (own_range slab object) found.region (omega (arith, bounds)) (omega (arith, bounds))

-- an object that is held begins at its place, and has its bytes and no others
pub object_is : (state : State) (lists : Lists) (holds : Holds state lists) (slab : OwnSlab) (object number : ℕ) → Contains lists.slabs slab → IsHeld slab object number →
    IsObject state (place_at slab.index slab.class object) (class_size slab.class) (grant_of number)
object_is state lists holds slab object number member held =
    let exists = held_exists state lists holds slab object number member held in
    let least = class_size-least slab.class (holds.good.slabs_are slab member).class_is in
    record {
      begins = record {
        held = object_held state lists holds slab object number member held (place_at slab.index slab.class object) (lies_in-is (place_at slab.index slab.class object) (own_range slab object) refl (omega arith) (omega arith));
        first = λ byte region before is.
            let inside = lies_in-parts byte (own_range slab object) (same_object state lists holds slab object number member held byte is) in
            let from = inside.from in
            omega arith;
      };
      held = λ byte inside. object_held state lists holds slab object number member held byte inside;
      whole = λ byte is. same_object state lists holds slab object number member held byte is;
    }

-- where an object begins, one is found
pub begins_found : (state : State) (lists : Lists) (holds : Holds state lists) (place : Place) (grant : Grant) → BeginsAt state place grant → spot_at lists place ≡ None → ⊥
begins_found state lists holds place grant begins none =
    let found = grant_byte state lists holds place grant begins.held in
    let start : Place = place_at found.slab.index found.slab.class found.object in
    let object = object_is state lists holds found.slab found.object found.number found.member found.held in
    let bounds = lies_on-parts found.slab.index 2 (place.offset / 8192) found.on in
    let low = found.least in
    let high = found.most in
    let zeros = same_region-parts place (at_offset 0) found.region in
    elim (cases_lt (8192 * found.slab.index + (16384 - (found.object + 1) * class_size found.slab.class)) place.offset) [
      | inl before ↦ begins.first (place_at found.slab.index found.slab.class found.object) (same_region-is (place_at found.slab.index found.slab.class found.object) place (sym zeros.0) (sym zeros.1)) before
          (object.begins.held ∙ ap (λ g. Some (Object g)) (sym found.is))
      | inr least ↦
          let same : place.offset ≡ 8192 * found.slab.index + (16384 - (found.object + 1) * class_size found.slab.class) = omega (arith, bounds) in
          let is : place ≡ place_at found.slab.index found.slab.class found.object = place_equal place.pool place.region place.offset zeros.0 zeros.1 same in
          let there = held_found [] lists (beside_none lists holds.good) found.slab found.object found.number found.member found.held in
          let clash : ◌≡◌ {A = Option Spot} None (Some (record { slab = found.slab; object = found.object; number = found.number })) = sym none ∙ ap (λ p. spot_at lists p) is ∙ there in cc
    ]
  where
    place_equal : (pool region offset : ℕ) {at : ℕ} → pool ≡ 0 → region ≡ 0 → offset ≡ at → ◌≡◌ {A = Place} (record { pool = pool; region = region; offset = offset }) (record { pool = 0; region = 0; offset = at })
    place_equal pool region offset {at} p r o =
        ap (λ n. record { pool = n; region = region; offset = offset }) p ∙ ap (λ n. record { pool = 0; region = n; offset = offset }) r ∙ ap (λ n. record { pool = 0; region = 0; offset = n }) o

-- the tests of a place that can be a unit
pub unit_is : (state : State) (lists : Lists) → Holds state lists → (place : Place) → is_unit lists place ≡ true → IsUnit fixed_terms.limits state place
unit_is state lists holds place is =
    let one = and_parts _ _ is in
    let two = and_parts _ _ one.1 in
    let three = and_parts _ _ two.1 in
    let four = and_parts _ _ three.1 in
    let below = ltb-true place.offset 1048576 four.0 in
    let eight = eqb-true (place.offset % 8) 0 four.1 in
    record {
      region = one_region;
      live = subst (λ (rs : List RegionRec). Contains rs one_region) (sym (holds.knows.regions_are ∙ regions_one lists.region three.0)) (0, lit< tt, refl);
      there = (eqb-true place.pool 0 one.0, eqb-true place.region 0 two.0);
      above = omega arith;
      below = omega arith;
      unit = omega arith;
    }
  where
    regions_one : (region : Option Region) → is_some region ≡ true → regions_of region ≡ one_region ∷ []
    regions_one (Some region) there = refl
    regions_one None there = absurd (let clash : false ≡ true = there in cc)

pub no_unit : (state : State) (lists : Lists) → Holds state lists → (place : Place) → is_unit lists place ≡ false → IsUnit fixed_terms.limits state place → ⊥
no_unit state lists holds place none unit = go lists.region refl (subst (λ (rs : List RegionRec). Contains rs unit.region) holds.knows.regions_are unit.live)
  where
    go : (region : Option Region) → lists.region ≡ region → Contains (regions_of region) unit.region → ⊥
    go None is member = Contains-none unit.region member
    go (Some region) is member =
        let same : one_region ≡ unit.region = Contains-single one_region unit.region member in
        let below = unit.below in
        let eight = unit.unit in
        let low : place.offset < 1048576 = subst (λ (r : RegionRec). place.offset < r.waste + r.granules * 8192) (sym same) below in
        let rest : (1048576 + place.offset) % 8 ≡ 0 = subst (λ (r : RegionRec). (r.region.base + place.offset) % 8 ≡ 0) (sym same) eight in
        let number : place.region ≡ 0 = unit.there.1 ∙ ap (λ (r : RegionRec). r.number) (sym same) in
        let all : is_unit lists place ≡ true = and_from (place.pool == 0) _ (eq-eqb place.pool 0 unit.there.0) (and_from (place.region == 0) _ (eq-eqb place.region 0 number)
        (and_from (is_some lists.region) _ (ap is_some is) (and_from (nat_lt place.offset 1048576) (place.offset % 8 == 0) (lt-ltb place.offset 1048576 low) (eq-eqb (place.offset % 8) 0 (omega arith))))) in
        let clash : true ≡ false = sym all ∙ none in cc
