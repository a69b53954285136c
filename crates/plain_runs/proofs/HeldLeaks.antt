-- The leaks of the lists are the objects that the partition holds.
use Prim.Native.Nat.{zero, suc}
use Rattle.std.proofs.Common.{◌≡◌, ◌⊎◌, ℕ, ◌+◌, ◌-◌, ◌*◌, ◌/◌, ◌<◌, ◌≤◌, true, false, List, [], ◌∷◌, ◌++◌, length, Some, None, refl, sym, ◌∙◌, ap, arith, inl, inr, subst, zero-add, zero-mul}
use Rattle.std.specs.Prelude.{Contains, slice_get, find, ◌==◌}
use Rattle.std.specs.declared.option.Option.{Option}
use Rattle.std.proofs.lemmas.Bool.{eqb-true, eq-eqb}
use Rattle.pool_types.specs.declared.values.Leak.{Leak}
use Rattle.part_model.proofs.CallerLemmas.{lies_in-is}
use Rattle.size_classes.specs.Classes.{class_size, class_objects}
use Rattle.machine.specs.States.{State}
use Rattle.plain_lists.specs.Lists.{OwnSlab, Lists}
use Rattle.plain_lists.specs.Whole.{grant_of, place_at}
use Rattle.plain_lists.specs.Held.{leak_at, leaks_of, slab_leaks, leaks_from, leaks_at}
use Rattle.plain_lists.specs.Good.{IsHeld}
use Rattle.list_laws.proofs.Members.{Contains-first, Contains-none, Contains-single}
use Rattle.std.proofs.lemmas.List.Elements.{Contains-append_cases, Contains-append_left, Contains-append_right}
use Rattle.list_laws.proofs.Finds.{find-Some, find-None}
use Rattle.plain_lists.proofs.Beside.{beside_none}
use Rattle.plain_lists.proofs.Within.{one_slab, slab_within}
use Rattle.plain_lists.proofs.Granules.{lies_on-parts}
use Rattle.machine.specs.Answers.{IsObject}
use Rattle.machine.specs.Leaks.{leak_range, AreFrom, AreLeaks}
use Rattle.plain_runs.proofs.Layouts.{some_bytes, one_more}
use Rattle.plain_runs.proofs.LaidOut.{Holds}
use Rattle.plain_runs.proofs.Objects.{grant_byte, object_is}

-- an object of a slab that is held, as a leak
abbrev pub held_leak : OwnSlab → ℕ → ℕ → Leak
held_leak slab object number = record { place = place_at slab.index slab.class object; usable = class_size slab.class; grant = grant_of number }

-- what is listed of a slab is an object that is held
leaks_of-member : (slab : OwnSlab) (object : ℕ) (objects : List (Option ℕ)) (leak : Leak) → Contains (leaks_of slab object objects) leak →
    (k : ℕ) × (number : ℕ) × (slice_get objects k ≡ Some (Some number)) × (leak ≡ held_leak slab (object + k) number)
leaks_of-member slab object [] leak member = absurd (Contains-none leak member)
leaks_of-member slab object (held ∷ more) leak member =
    go held refl (Contains-append_cases (leaks_of slab (object + 1) more) (leak_at slab object held) leak member) (λ later. leaks_of-member slab (object + 1) more leak later)
  where
    go : (h : Option ℕ) → held ≡ h → Contains (leaks_of slab (object + 1) more) leak ⊎ Contains (leak_at slab object h) leak →
        (Contains (leaks_of slab (object + 1) more) leak → (k : ℕ) × (number : ℕ) × (slice_get more k ≡ Some (Some number)) × (leak ≡ held_leak slab (object + 1 + k) number)) →
        (k : ℕ) × (number : ℕ) × (slice_get (held ∷ more) k ≡ Some (Some number)) × (leak ≡ held_leak slab (object + k) number)
    go h is (inl later) step =
        let found = step later in
        let same : object + 1 + found.0 ≡ object + suc found.0 = omega arith in
        (suc found.0, found.1, found.2, found.3 ∙ ap (λ n. held_leak slab n found.1) same)
    go (Some number) is (inr here) step =
        let same : object ≡ object + 0 = omega arith in
        (0, number, ap Some is, sym (Contains-single (held_leak slab object number) leak here) ∙ ap (λ n. held_leak slab n number) same)
    go None is (inr here) step = absurd (Contains-none leak here)

-- and each such object is listed
leaks_of-has : (slab : OwnSlab) (object : ℕ) (objects : List (Option ℕ)) (k number : ℕ) → slice_get objects k ≡ Some (Some number) → Contains (leaks_of slab object objects) (held_leak slab (object + k) number)
leaks_of-has slab object [] k number is = absurd (let clash = is in cc)
leaks_of-has slab object (held ∷ more) zero number is =
    let same : object ≡ object + 0 = omega arith in
    Contains-append_right (leaks_of slab (object + 1) more) (leak_at slab object held) (held_leak slab (object + 0) number)
    (subst (λ h. Contains (leak_at slab object h) (held_leak slab (object + 0) number)) (sym (held_is held is)) (subst (λ n. Contains (held_leak slab object number ∷ []) (held_leak slab n number)) same (Contains-first (held_leak slab object number) [])))
  where
    held_is : (h : Option ℕ) → ◌≡◌ {A = Option (Option ℕ)} (Some h) (Some (Some number)) → h ≡ Some number
    held_is h same = cc
leaks_of-has slab object (held ∷ more) (suc k) number is =
    let same : object + 1 + k ≡ object + suc k = omega arith in
    subst (λ n. Contains (leaks_of slab (object + 1) more ++ leak_at slab object held) (held_leak slab n number)) same
    (Contains-append_left (leaks_of slab (object + 1) more) (leak_at slab object held) (held_leak slab (object + 1 + k) number) (leaks_of-has slab (object + 1) more k number is))

-- what is listed of all slabs
pub record IsLeak (slabs : List OwnSlab) (leak : Leak) : Type 0 where
  pub slab : OwnSlab
  pub object : ℕ
  pub number : ℕ
  pub member : Contains slabs slab
  pub held : IsHeld slab object number
  pub is : leak ≡ held_leak slab object number

pub leaks_from-member : (rooms index : ℕ) (slabs : List OwnSlab) (leak : Leak) → Contains (leaks_from rooms index slabs) leak → IsLeak slabs leak
unfolding leaks_from
leaks_from-member zero index slabs leak member = absurd (Contains-none leak member)
leaks_from-member (suc rooms) index slabs leak member = elim (Contains-append_cases (slab_leaks (find (λ slab. slab.index == index) slabs)) (leaks_from rooms (index + 2) slabs) leak member) [
  | inl here ↦ of_slab slabs index leak (find (λ slab. slab.index == index) slabs) refl here
  | inr later ↦ leaks_from-member rooms (index + 2) slabs leak later
]
  where
    of_slab : (slabs : List OwnSlab) (index : ℕ) (leak : Leak) (slab : Option OwnSlab) → find (λ slab. slab.index == index) slabs ≡ slab → Contains (slab_leaks slab) leak → IsLeak slabs leak
    of_slab slabs index leak None is here = absurd (Contains-none leak here)
    of_slab slabs index leak (Some slab) is here =
        let found = leaks_of-member slab 0 slab.objects leak here in
        let same : 0 + found.0 ≡ found.0 = omega arith in
        record { slab = slab; object = found.0; number = found.1; member = (find-Some (λ (s : OwnSlab). s.index == index) slabs slab is).0; held = found.2; is = found.3 ∙ ap (λ n. held_leak slab n found.1) same }

-- the slab at an index
pub slab_at_index : (slabs : List OwnSlab) (slab : OwnSlab) → Contains slabs slab → ((other : OwnSlab) → Contains slabs other → slab.index ≡ other.index → slab ≡ other) → find (λ s. s.index == slab.index) slabs ≡ Some slab
slab_at_index slabs slab member only = go (find (λ (s : OwnSlab). s.index == slab.index) slabs) refl
  where
    go : (found : Option OwnSlab) → find (λ (s : OwnSlab). s.index == slab.index) slabs ≡ found → find (λ (s : OwnSlab). s.index == slab.index) slabs ≡ Some slab
    go (Some other) is =
        let both = find-Some (λ (s : OwnSlab). s.index == slab.index) slabs other is in
        is ∙ ap Some (sym (only other both.0 (sym (eqb-true other.index slab.index both.1))))
    go None is = absurd (let clash : true ≡ false = sym (eq-eqb slab.index slab.index refl) ∙ find-None (λ (s : OwnSlab). s.index == slab.index) slabs is slab member in cc)

pub leaks_from-has : (rooms index : ℕ) (slabs : List OwnSlab) (slab : OwnSlab) (j : ℕ) (leak : Leak) → j < rooms → slab.index ≡ index + 2 * j → find (λ s. s.index == slab.index) slabs ≡ Some slab →
    Contains (leaks_of slab 0 slab.objects) leak → Contains (leaks_from rooms index slabs) leak
unfolding leaks_from
leaks_from-has zero index slabs slab j leak below is found listed = absurd (omega arith)
leaks_from-has (suc rooms) index slabs slab zero leak below is found listed =
    let same : slab.index ≡ index = omega arith in
    Contains-append_left (slab_leaks (find (λ s. s.index == index) slabs)) (leaks_from rooms (index + 2) slabs) leak
    (subst (λ s. Contains (slab_leaks s) leak) (sym (subst (λ i. find (λ (s : OwnSlab). s.index == i) slabs ≡ Some slab) same found)) listed)
leaks_from-has (suc rooms) index slabs slab (suc j) leak below is found listed =
    Contains-append_right (slab_leaks (find (λ s. s.index == index) slabs)) (leaks_from rooms (index + 2) slabs) leak
    (leaks_from-has rooms (index + 2) slabs slab j leak (omega arith) (omega arith) found listed)

-- the objects lie between two offsets, in order
abbrev pub AreWithin : ℕ → ℕ → List Leak → Type 0
AreWithin low high [] = low ≤ high
AreWithin low high (leak ∷ leaks) = (low ≤ leak.place.offset) × AreWithin (leak.place.offset + leak.usable) high leaks

within_append : (low middle high : ℕ) (xs ys : List Leak) → AreWithin low middle xs → AreWithin middle high ys → AreWithin low high (xs ++ ys)
within_append low middle high [] [] within later = omega (arith, within, later)
within_append low middle high [] (leak ∷ ys) within later = (omega (arith, within, later.0), later.1)
within_append low middle high (leak ∷ xs) ys within later = (within.0, within_append (leak.place.offset + leak.usable) middle high xs ys within.1 later)

within_from : (low high : ℕ) (leaks : List Leak) → AreWithin low high leaks → AreFrom low leaks
within_from low high [] within = tt
within_from low high (leak ∷ leaks) within = (within.0, within_from (leak.place.offset + leak.usable) high leaks within.1)

-- one object of a slab
one_within : (slab : OwnSlab) (object : ℕ) (held : Option ℕ) → object < class_objects slab.class →
    AreWithin (8192 * slab.index + (16384 - (object + 1) * class_size slab.class)) (8192 * slab.index + (16384 - object * class_size slab.class)) (leak_at slab object held)
one_within slab object None below = let more = one_more object slab.class in omega (arith, more)
one_within slab object (Some number) below =
    let more = one_more object slab.class in
    let room = some_bytes slab.class (object + 1) (omega arith) in
    (omega arith, omega (arith, more, room))

-- those of a slab, from an object on
of_within : (slab : OwnSlab) (object : ℕ) (objects : List (Option ℕ)) → object + length objects ≤ class_objects slab.class →
    AreWithin (8192 * slab.index + (16384 - (object + length objects) * class_size slab.class)) (8192 * slab.index + (16384 - object * class_size slab.class)) (leaks_of slab object objects)
of_within slab object [] few =
    let same : (object + 0) * class_size slab.class ≡ object * class_size slab.class = ap (λ n. n * class_size slab.class) (let e : object + 0 ≡ object = omega arith in e) in
    omega (arith, same)
of_within slab object (held ∷ more) few =
    let later = of_within slab (object + 1) more (omega arith) in
    let count : object + 1 + length more ≡ object + length (held ∷ more) = omega arith in
    let all : AreWithin (8192 * slab.index + (16384 - (object + length (held ∷ more)) * class_size slab.class)) (8192 * slab.index + (16384 - (object + 1) * class_size slab.class)) (leaks_of slab (object + 1) more) =
    subst (λ n. AreWithin (8192 * slab.index + (16384 - n * class_size slab.class)) (8192 * slab.index + (16384 - (object + 1) * class_size slab.class)) (leaks_of slab (object + 1) more)) count later in
    within_append (8192 * slab.index + (16384 - (object + length (held ∷ more)) * class_size slab.class)) (8192 * slab.index + (16384 - (object + 1) * class_size slab.class)) (8192 * slab.index + (16384 - object * class_size slab.class))
    (leaks_of slab (object + 1) more) (leak_at slab object held) all (one_within slab object held (omega arith))

-- those of all slabs
from_within : (rooms index : ℕ) (slabs : List OwnSlab) → ((slab : OwnSlab) → Contains slabs slab → length slab.objects ≤ class_objects slab.class) →
    AreWithin (8192 * index) (8192 * (index + 2 * rooms)) (leaks_from rooms index slabs)
unfolding leaks_from
from_within zero index slabs few = omega arith
from_within (suc rooms) index slabs few =
    let next : index + 2 + 2 * rooms ≡ index + 2 * suc rooms = omega arith in
    within_append (8192 * index) (8192 * (index + 2)) (8192 * (index + 2 * suc rooms)) (slab_leaks (find (λ slab. slab.index == index) slabs)) (leaks_from rooms (index + 2) slabs)
    (of_slab (find (λ slab. slab.index == index) slabs) refl)
    (subst (λ n. AreWithin (8192 * (index + 2)) (8192 * n) (leaks_from rooms (index + 2) slabs)) next (from_within rooms (index + 2) slabs few))
  where
    of_slab : (slab : Option OwnSlab) → find (λ slab. slab.index == index) slabs ≡ slab → AreWithin (8192 * index) (8192 * (index + 2)) (slab_leaks slab)
    of_slab None is = omega arith
    of_slab (Some slab) is =
        let both = find-Some (λ (s : OwnSlab). s.index == index) slabs slab is in
        let same : slab.index ≡ index = eqb-true slab.index index both.1 in
        let within = of_within slab 0 slab.objects (let most = few slab both.0 in omega (arith, most)) in
        let none : 0 * class_size slab.class ≡ 0 = zero-mul (class_size slab.class) in
        let high : 8192 * slab.index + (16384 - 0 * class_size slab.class) ≡ 8192 * (index + 2) = omega (arith, same, none) in
        within_append (8192 * index) (8192 * slab.index + (16384 - (0 + length slab.objects) * class_size slab.class)) (8192 * (index + 2)) [] (leaks_of slab 0 slab.objects) (omega (arith, same))
        (subst (λ n. AreWithin (8192 * slab.index + (16384 - (0 + length slab.objects) * class_size slab.class)) n (leaks_of slab 0 slab.objects)) high within)

-- the leaks of the lists are the objects that are held
pub leaks_are : (state : State) (lists : Lists) → Holds state lists → AreLeaks state (leaks_at lists)
leaks_are state lists holds = record {
  each = λ leak member.
      let found = leaks_from-member 64 0 lists.slabs leak member in
      subst (λ (l : Leak). IsObject state l.place l.usable l.grant) (sym found.is) (object_is state lists holds found.slab found.object found.number found.member found.held);
  all = λ byte grant is.
      let found = grant_byte state lists holds byte grant is in
      let even = (holds.good.slabs_are found.slab found.member).even in
      let inside = (slab_within [] lists (beside_none lists holds.good) found.slab found.member).1 in
      let bounds = lies_on-parts found.slab.index 2 (byte.offset / 8192) found.on in
      let low = found.least in
      let high = found.most in
      let here : Contains (leaks_of found.slab 0 found.slab.objects) (held_leak found.slab found.object found.number) =
      subst (λ n. Contains (leaks_of found.slab 0 found.slab.objects) (held_leak found.slab n found.number)) (zero-add found.object) (leaks_of-has found.slab 0 found.slab.objects found.object found.number found.held) in
      record {
        leak = held_leak found.slab found.object found.number;
        listed = leaks_from-has 64 0 lists.slabs found.slab (found.slab.index / 2) (held_leak found.slab found.object found.number) (omega arith) (omega arith)
            (slab_at_index lists.slabs found.slab found.member (λ other listed same. one_slab [] lists (beside_none lists holds.good) found.slab other found.member listed same)) here;
        granted = sym found.is;
        inside = lies_in-is byte (leak_range (held_leak found.slab found.object found.number)) found.region (omega (arith, bounds)) (omega (arith, bounds));
      };
  in_order = within_from 0 (8192 * (0 + 2 * 64)) (leaks_at lists) (from_within 64 0 lists.slabs (λ slab member. (holds.good.slabs_are slab member).few));
}
