-- The objects that are held are those that were granted, less those that were freed.
use Rattle.std.proofs.Common.{◌≡◌, ◌≢◌, ℕ, ◌+◌, ◌*◌, ◌-◌, ◌<◌, ◌≤◌, inl, inr, List, [], ◌∷◌, ◌++◌, Some, None, Bool, true, false, ◌&&◌, refl, sym, ◌∙◌, ap, arith, subst}
use Rattle.std.specs.Prelude.{Contains, if◌then◌else◌, ◌==◌}
use Rattle.std.specs.List.{list_any, flat_map}
use Rattle.std.specs.declared.option.Option.{Option}
use Rattle.std.proofs.lemmas.Bool.{cases_Bool, eqb-true, false_from_ne_true}
use Rattle.std.proofs.lemmas.List.Elements.{Contains-append_left, Contains-append_right, Contains-push_cases}
use Rattle.std.proofs.Math.Nat.{mul-le-mul_right}
use Rattle.list_laws.proofs.Members.{Contains-first}
use Rattle.pool_types.specs.declared.values.Grant.{Grant}
use Rattle.pool_types.specs.declared.values.Leak.{Leak}
use Rattle.pool_types.specs.declared.values.Place.{Place}
use Rattle.part_model.specs.declared.holders.Holder.{Holder}
use Rattle.part_model.specs.declared.holders.Holder.TheVariants.{Waste, Head, Rest, Private, Public, Object, LargeHead, SlabCache, Cached, Bin, Queue, Hand}
use Rattle.part_model.specs.declared.moves.Part.{Part}
use Rattle.part_model.specs.declared.moves.Range.{Range}
use Rattle.part_model.specs.Holding.{Holding, lies_in, IsApart}
use Rattle.part_model.proofs.CallerLemmas.{lies_in-parts, lies_in-is, same_region-is, same_region-parts}
use Rattle.size_classes.specs.Classes.{class_size, class_objects}
use Rattle.size_classes.specs.Layout.{object_offset}
use Rattle.size_classes.proofs.CallerLemmas.{class_size-least, class_objects-fit}
use Rattle.machine.specs.States.{Slab}
use Rattle.machine.specs.Ranges.{Each, object_range, slab_range}
use Rattle.machine.specs.Journal.{is_object, last_after}
use Rattle.machine.specs.Leaks.{leak_range}
use Rattle.machine.specs.Ledger.{object_at, granted_by, freed_by}
use Rattle.machine.proofs.ObjectMoves.{NoObject, IsSameSlab}

-- Where an object lies: it is one of a slab of the book, or it lies in none.
pub data IsLaid (book : List Slab) (leak : Leak) : Type 0 where
  in_slab : (slab : Slab) (object : ℕ) → Contains book slab → object < class_objects slab.class → leak_range leak ≡ object_range slab object → IsLaid book leak
  off_book : ((slab : Slab) → Contains book slab → IsApart (leak_range leak) (slab_range slab.place)) → IsLaid book leak

-- the slabs of the book are of classes, and two that have a byte in common lie at one place and are of one class
pub record IsBook (book : List Slab) : Type 0 where
  pub classes : (slab : Slab) → Contains book slab → slab.class < 26
  pub apart : (one other : Slab) → Contains book one → Contains book other → (byte : Place) →
      lies_in byte (slab_range one.place) ≡ true → lies_in byte (slab_range other.place) ≡ true → IsSameSlab one other

-- what holders, the book and the last numbers have to do with the objects that were granted and freed
pub record IsLedger (held : Holding) (book : List Slab) (last : ℕ → ℕ) (granted freed : List Leak) : Type 0 where
  pub booked : IsBook book
  pub found : (byte : Place) (grant : Grant) → held byte ≡ Some (Object grant) → (leak : Leak) × Contains granted leak × (leak.grant ≡ grant) × (lies_in byte (leak_range leak) ≡ true)
  pub kept : (leak : Leak) → Contains granted leak → (Contains freed leak → ⊥) → (byte : Place) → lies_in byte (leak_range leak) ≡ true → held byte ≡ Some (Object leak.grant)
  pub gone : (leak : Leak) → Contains freed leak → Contains granted leak × ((byte : Place) → held byte ≢ Some (Object leak.grant))
  pub once : (one other : Leak) → Contains granted one → Contains granted other → one.grant ≡ other.grant → one ≡ other
  pub below : (leak : Leak) → Contains granted leak → (leak.grant.number ≤ last leak.grant.seat) × (0 < leak.usable)
  pub laid : (leak : Leak) → Contains granted leak → (Contains freed leak → ⊥) → IsLaid book leak

-- one object
pub same_grant : {one other : Grant} → ◌≡◌ {A = Option Holder} (Some (Object one)) (Some (Object other)) → one ≡ other
same_grant is = cc

-- the first byte of an object lies in it
pub first_inside : (leak : Leak) → 0 < leak.usable → lies_in leak.place (leak_range leak) ≡ true
first_inside leak some = lies_in-is leak.place (leak_range leak) (same_region-is leak.place leak.place refl refl) (omega arith) (omega (arith, some))

-- a byte of a range, by its offset
abbrev pub byte_at : Range → ℕ → Place
byte_at range offset = record { pool = range.place.pool; region = range.place.region; offset = offset }

byte_in : (range : Range) (offset : ℕ) → range.place.offset ≤ offset → offset < range.place.offset + range.bytes → lies_in (byte_at range offset) range ≡ true
byte_in range offset low high = lies_in-is (byte_at range offset) range (same_region-is (byte_at range offset) range.place refl refl) low high

-- ranges that have the same bytes, and have some, are one
pub same_range : (one other : Range) → 0 < one.bytes → 0 < other.bytes → ((byte : Place) → lies_in byte one ≡ true → lies_in byte other ≡ true) → ((byte : Place) → lies_in byte other ≡ true → lies_in byte one ≡ true) → one ≡ other
same_range one other some some_other to from =
    let first = lies_in-parts (byte_at one one.place.offset) other (to (byte_at one one.place.offset) (byte_in one one.place.offset (omega arith) (omega (arith, some)))) in
    let last = lies_in-parts (byte_at one (one.place.offset + (one.bytes - 1))) other (to (byte_at one (one.place.offset + (one.bytes - 1))) (byte_in one (one.place.offset + (one.bytes - 1)) (omega arith) (omega (arith, some)))) in
    let first' = lies_in-parts (byte_at other other.place.offset) one (from (byte_at other other.place.offset) (byte_in other other.place.offset (omega arith) (omega (arith, some_other)))) in
    let last' = lies_in-parts (byte_at other (other.place.offset + (other.bytes - 1))) one (from (byte_at other (other.place.offset + (other.bytes - 1))) (byte_in other (other.place.offset + (other.bytes - 1)) (omega arith) (omega (arith, some_other)))) in
    let same = same_region-parts (byte_at one one.place.offset) other.place first.region in
    let a : other.place.offset ≤ one.place.offset = first.from in
    let b : one.place.offset + (one.bytes - 1) < other.place.offset + other.bytes = last.below in
    let c : one.place.offset ≤ other.place.offset = first'.from in
    let d : other.place.offset + (other.bytes - 1) < one.place.offset + one.bytes = last'.below in
    built same.0 same.1 (omega (arith, a, c)) (omega (arith, a, b, c, d, some, some_other))
  where
    built : one.place.pool ≡ other.place.pool → one.place.region ≡ other.place.region → one.place.offset ≡ other.place.offset → one.bytes ≡ other.bytes → one ≡ other
    built pool region offset bytes =
        ap (λ p. record { place = record { pool = p; region = one.place.region; offset = one.place.offset }; bytes = one.bytes }) pool
        ∙ ap (λ r. record { place = record { pool = other.place.pool; region = r; offset = one.place.offset }; bytes = one.bytes }) region
        ∙ ap (λ o. record { place = record { pool = other.place.pool; region = other.place.region; offset = o }; bytes = one.bytes }) offset
        ∙ ap (λ n. record { place = other.place; bytes = n }) bytes

-- objects of one range and one grant are one
pub same_leak : (one other : Leak) → leak_range one ≡ leak_range other → one.grant ≡ other.grant → one ≡ other
same_leak one other range grant =
    ap (λ (r : Range). record { place = r.place; usable = r.bytes; grant = one.grant }) range
    ∙ ap (λ g. record { place = other.place; usable = other.usable; grant = g }) grant

-- no object where the holder is none
pub no_object_at : (range : Range) (holder : Option Holder) → is_object holder ≡ false → object_at range holder ≡ []
no_object_at range None is = refl
no_object_at range (Some Waste) is = refl
no_object_at range (Some Head) is = refl
no_object_at range (Some Rest) is = refl
no_object_at range (Some Private) is = refl
no_object_at range (Some Public) is = refl
no_object_at range (Some (Object grant)) is = absurd (let clash = is in cc)
no_object_at range (Some (LargeHead grant)) is = refl
no_object_at range (Some (SlabCache seat)) is = refl
no_object_at range (Some (Cached granules)) is = refl
no_object_at range (Some Bin) is = refl
no_object_at range (Some Queue) is = refl
no_object_at range (Some (Hand seat)) is = refl

pub none_granted : (parts : List Part) → Each NoObject parts → flat_map granted_by parts ≡ []
none_granted [] all = refl
none_granted (part ∷ parts) (first, rest) = ap (λ (ls : List Leak). ls ++ flat_map granted_by parts) (no_object_at part.range part.to first.to) ∙ none_granted parts rest

pub none_freed : (parts : List Part) → Each NoObject parts → flat_map freed_by parts ≡ []
none_freed [] all = refl
none_freed (part ∷ parts) (first, rest) = ap (λ (ls : List Leak). ls ++ flat_map freed_by parts) (no_object_at part.range part.from first.from) ∙ none_freed parts rest

-- an object is one
pub object_clash : (holder : Option Holder) (grant : Grant) → is_object holder ≡ false → holder ≡ Some (Object grant) → ⊥
object_clash holder grant none is = let clash : false ≡ true = sym none ∙ ap is_object is in cc

-- the last numbers only grow
pub last_grows : (last : ℕ → ℕ) (seat : ℕ) (parts : List Part) (other : ℕ) → last other ≤ last_after last seat parts other
last_grows last seat parts other = by_test (list_any (λ part. is_object part.to) parts) (other == seat) refl
  where
    by_test : (b c : Bool) → (other == seat) ≡ c → last other ≤ (if b && c then last seat + 1 else last other)
    by_test true true is = let same : last other ≡ last seat = ap last (eqb-true other seat is) in omega (arith, same)
    by_test true false is = omega arith
    by_test false c is = omega arith

-- nothing is granted and nothing freed
pub ledger_same : (held next : Holding) (book book' : List Slab) (last last' : ℕ → ℕ) (granted freed : List Leak) → IsLedger held book last granted freed →
    ((byte : Place) (grant : Grant) → next byte ≡ Some (Object grant) → held byte ≡ Some (Object grant)) →
    ((byte : Place) (grant : Grant) → held byte ≡ Some (Object grant) → next byte ≡ Some (Object grant)) →
    IsBook book' → ((leak : Leak) → Contains granted leak → (Contains freed leak → ⊥) → IsLaid book leak → IsLaid book' leak) → ((seat : ℕ) → last seat ≤ last' seat) →
    IsLedger next book' last' granted freed
ledger_same held next book book' last last' granted freed ledger back on booked laid grows = record {
  booked = booked;
  found = λ byte grant is. ledger.found byte grant (back byte grant is);
  kept = λ leak member still byte inside. on byte leak.grant (ledger.kept leak member still byte inside);
  gone = λ leak member. let was = ledger.gone leak member in (was.0, λ byte is. was.1 byte (back byte leak.grant is));
  once = ledger.once;
  below = λ leak member. let was = ledger.below leak member in (let more = grows leak.grant.seat in let least = was.0 in omega (arith, more, least), was.1);
  laid = λ leak member still. laid leak member still (ledger.laid leak member still);
}

-- an object is granted
pub ledger_granted : (held next : Holding) (book : List Slab) (last last' : ℕ → ℕ) (granted freed : List Leak) (leak : Leak) → IsLedger held book last granted freed →
    ((byte : Place) → lies_in byte (leak_range leak) ≡ true → next byte ≡ Some (Object leak.grant)) →
    ((byte : Place) → lies_in byte (leak_range leak) ≡ true → is_object (held byte) ≡ false) →
    ((byte : Place) (grant : Grant) → lies_in byte (leak_range leak) ≡ false → next byte ≡ Some (Object grant) → held byte ≡ Some (Object grant)) →
    ((byte : Place) (grant : Grant) → lies_in byte (leak_range leak) ≡ false → held byte ≡ Some (Object grant) → next byte ≡ Some (Object grant)) →
    last leak.grant.seat < leak.grant.number → leak.grant.number ≤ last' leak.grant.seat → ((seat : ℕ) → last seat ≤ last' seat) → 0 < leak.usable → IsLaid book leak →
    IsLedger next book last' (granted ++ leak ∷ []) freed
ledger_granted held next book last last' granted freed leak ledger now was back on new least grows some laid = record {
  booked = ledger.booked;
  found = λ byte grant is. elim (cases_Bool (lies_in byte (leak_range leak))) [
    | inl inside ↦ (leak, Contains-append_right granted (leak ∷ []) leak (Contains-first leak []), same_grant (sym (now byte inside) ∙ is), inside)
    | inr outside ↦ let old = ledger.found byte grant (back byte grant outside is) in (old.0, Contains-append_left granted (leak ∷ []) old.0 old.1, old.2, old.3)
  ];
  kept = λ one member still byte inside. elim (Contains-push_cases granted leak one member) [
    | inl old ↦
        let held_is = ledger.kept one old still byte inside in
        on byte one.grant (false_from_ne_true (lies_in byte (leak_range leak)) (λ within. object_clash (held byte) one.grant (was byte within) held_is)) held_is
    | inr is ↦ subst (λ (l : Leak). lies_in byte (leak_range l) ≡ true → next byte ≡ Some (Object l.grant)) is (now byte) inside
  ];
  gone = λ one member.
      let old = ledger.gone one member in (
        Contains-append_left granted (leak ∷ []) one old.0,
        λ byte is. elim (cases_Bool (lies_in byte (leak_range leak))) [
          | inl inside ↦ other_number one old.0 (sym (same_grant (sym (now byte inside) ∙ is)))
          | inr outside ↦ old.1 byte (back byte one.grant outside is)
        ],
      );
  once = λ one other member member_other same. elim (Contains-push_cases granted leak one member) [
    | inl old ↦ elim (Contains-push_cases granted leak other member_other) [
      | inl old_other ↦ ledger.once one other old old_other same
      | inr is ↦ absurd (other_number one old (same ∙ ap (λ (l : Leak). l.grant) (sym is)))
    ]
    | inr is ↦ elim (Contains-push_cases granted leak other member_other) [
      | inl old_other ↦ absurd (other_number other old_other (sym same ∙ ap (λ (l : Leak). l.grant) (sym is)))
      | inr is_other ↦ sym is ∙ is_other
    ]
  ];
  below = λ one member. elim (Contains-push_cases granted leak one member) [
    | inl old ↦ (let least' = (ledger.below one old).0 in let more = grows one.grant.seat in omega (arith, least', more), (ledger.below one old).1)
    | inr is ↦ subst (λ (l : Leak). (l.grant.number ≤ last' l.grant.seat) × (0 < l.usable)) is (least, some)
  ];
  laid = λ one member still. elim (Contains-push_cases granted leak one member) [
    | inl old ↦ ledger.laid one old still
    | inr is ↦ subst (IsLaid book) is laid
  ];
}
  where
    other_number : (one : Leak) → Contains granted one → one.grant ≡ leak.grant → ⊥
    other_number one member same =
        let least' = (ledger.below one member).0 in
        let most : leak.grant.number ≤ last leak.grant.seat = subst (λ (g : Grant). g.number ≤ last g.seat) same least' in
        omega (arith, most, new)

-- an object is freed
pub ledger_freed : (held next : Holding) (book : List Slab) (last last' : ℕ → ℕ) (granted freed : List Leak) (leak : Leak) → IsLedger held book last granted freed → Contains granted leak →
    ((byte : Place) → lies_in byte (leak_range leak) ≡ true → held byte ≡ Some (Object leak.grant)) →
    ((byte : Place) → lies_in byte (leak_range leak) ≡ true → is_object (next byte) ≡ false) →
    ((byte : Place) (grant : Grant) → lies_in byte (leak_range leak) ≡ false → next byte ≡ Some (Object grant) → held byte ≡ Some (Object grant)) →
    ((byte : Place) (grant : Grant) → lies_in byte (leak_range leak) ≡ false → held byte ≡ Some (Object grant) → next byte ≡ Some (Object grant)) →
    ((seat : ℕ) → last seat ≤ last' seat) →
    IsLedger next book last' granted (freed ++ leak ∷ [])
ledger_freed held next book last last' granted freed leak ledger member_leak was now back on grows = record {
  booked = ledger.booked;
  found = λ byte grant is. ledger.found byte grant (outer byte grant is);
  kept = λ one member still byte inside.
      let held_is = ledger.kept one member (λ in_freed. still (Contains-append_left freed (leak ∷ []) one in_freed)) byte inside in
      on byte one.grant (false_from_ne_true (lies_in byte (leak_range leak)) (λ within.
      let same : one ≡ leak = ledger.once one leak member member_leak (same_grant (sym held_is ∙ was byte within)) in
      still (Contains-append_right freed (leak ∷ []) one (subst (λ l. Contains (leak ∷ []) l) (sym same) (Contains-first leak []))))) held_is;
  gone = λ one member. elim (Contains-push_cases freed leak one member) [
    | inl old ↦ let before = ledger.gone one old in (before.0, λ byte is. before.1 byte (outer byte one.grant is))
    | inr is ↦ subst (λ (l : Leak). Contains granted l × ((byte : Place) → next byte ≢ Some (Object l.grant))) is (member_leak, λ byte now_is. all_gone byte now_is)
  ];
  once = ledger.once;
  below = λ one member. let before = ledger.below one member in (let more = grows one.grant.seat in let least = before.0 in omega (arith, more, least), before.1);
  laid = λ one member still. ledger.laid one member (λ in_freed. still (Contains-append_left freed (leak ∷ []) one in_freed));
}
  where
    outer : (byte : Place) (grant : Grant) → next byte ≡ Some (Object grant) → held byte ≡ Some (Object grant)
    outer byte grant is = elim (cases_Bool (lies_in byte (leak_range leak))) [
      | inl inside ↦ absurd (object_clash (next byte) grant (now byte inside) is)
      | inr outside ↦ back byte grant outside is
    ]

    all_gone : (byte : Place) → next byte ≡ Some (Object leak.grant) → ⊥
    all_gone byte is =
        let held_is = outer byte leak.grant is in
        let one = ledger.found byte leak.grant held_is in
        let same : one.0 ≡ leak = ledger.once one.0 leak one.1 member_leak one.2 in
        let inside : lies_in byte (leak_range leak) ≡ true = subst (λ (l : Leak). lies_in byte (leak_range l) ≡ true) same one.3 in
        object_clash (next byte) leak.grant (now byte inside) is

-- objects of slabs of one place and one class lie alike
pub same_object_range : (one other : Slab) (object : ℕ) → IsSameSlab one other → object_range one object ≡ object_range other object
same_object_range one other object same =
    ap (λ p. object_range (record { place = p; class = one.class; keeper = one.keeper }) object) same.0
    ∙ ap (λ c. object_range (record { place = other.place; class = c; keeper = one.keeper }) object) same.1

-- an object lies in its slab
object_bounds : (class object : ℕ) → object < class_objects class → (object + 1) * class_size class ≤ 16256
object_bounds class object exists =
    let some : (object + 1) * class_size class ≤ class_objects class * class_size class = mul-le-mul_right (class_size class) (let step : object + 1 ≤ class_objects class = omega (arith, exists) in step) in
    let fit = class_objects-fit class in
    omega (arith, some, fit)

one_more : (object class : ℕ) → (object + 1) * class_size class ≡ object * class_size class + class_size class
one_more object class = grind arith

pub object_in_slab : (slab : Slab) (object : ℕ) (byte : Place) → object < class_objects slab.class → lies_in byte (object_range slab object) ≡ true → lies_in byte (slab_range slab.place) ≡ true
object_in_slab slab object byte exists inside =
    let room = object_bounds slab.class object exists in
    let more = one_more object slab.class in
    let lies = lies_in-parts byte (object_range slab object) inside in
    let low = lies.from in
    let high = lies.below in
    lies_in-is byte (slab_range slab.place) lies.region (omega (arith, low)) (omega (arith, high, room, more))

-- two objects of a slab of which the one lies in the other are one
pub nested_objects : (slab : Slab) (object other : ℕ) → slab.class < 26 → object < class_objects slab.class → other < class_objects slab.class →
    ((byte : Place) → lies_in byte (object_range slab object) ≡ true → lies_in byte (object_range slab other) ≡ true) → object_range slab object ≡ object_range slab other
nested_objects slab object other class exists exists_other within =
    let some : 8 ≤ class_size slab.class = class_size-least slab.class class in
    let range : Range = object_range slab object in
    let first = lies_in-parts (byte_at (object_range slab object) (object_range slab object).place.offset) (object_range slab other)
    (within (byte_at (object_range slab object) (object_range slab object).place.offset) (byte_in (object_range slab object) (object_range slab object).place.offset (omega arith) (omega (arith, some)))) in
    let last = lies_in-parts (byte_at (object_range slab object) ((object_range slab object).place.offset + (class_size slab.class - 1))) (object_range slab other)
    (within (byte_at (object_range slab object) ((object_range slab object).place.offset + (class_size slab.class - 1)))
    (byte_in (object_range slab object) ((object_range slab object).place.offset + (class_size slab.class - 1)) (omega arith) (omega (arith, some)))) in
    let low : slab.place.offset + object_offset slab.class other ≤ slab.place.offset + object_offset slab.class object = first.from in
    let high : slab.place.offset + object_offset slab.class object + (class_size slab.class - 1) < slab.place.offset + object_offset slab.class other + class_size slab.class = last.below in
    let same : slab.place.offset + object_offset slab.class object ≡ slab.place.offset + object_offset slab.class other = omega (arith, low, high, some) in
    ap (λ o. record { place = record { pool = slab.place.pool; region = slab.place.region; offset = o }; bytes = class_size slab.class }) same
