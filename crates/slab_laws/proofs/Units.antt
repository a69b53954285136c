-- Where the objects of a slab begin.
use Rattle.std.proofs.Common.{◌≡◌, ◌≢◌, ℕ, ◌+◌, ◌-◌, ◌*◌, ◌/◌, ◌^◌, ◌<◌, ◌≤◌, inl, inr, sym, ap, arith, ◌∙◌}
use Rattle.std.proofs.lemmas.Bool.{cases_order, cases_lt}
use Rattle.std.proofs.Math.Nat.{mul-le-mul_right}
use Rattle.size_classes.specs.Classes.{class_size, class_objects}
use Rattle.size_classes.proofs.CallerLemmas.{objects-room, class_size-eights}
use Rattle.heap_slabs.specs.Records.{unit_of}
use Rattle.heap_slabs.proofs.Agreement.{units_are_offsets}
use Rattle.slab_laws.specs.Heaps.{slab_of}

eighths : (n k : ℕ) → n * (8 * k) ≡ 8 * (n * k)
eighths n k = grind arith

objects_of_none : (class : ℕ) → class_size class ≡ 0 → class_objects class ≡ 0
unfolding class_objects
objects_of_none class z = ap (λ n. 16256 / n) z

size_some : (class i : ℕ) → i < class_objects class → 0 < class_size class / 8
size_some class i below = elim (cases_lt 0 (class_size class / 8)) [
  | inl l ↦ l
  | inr none ↦ absurd (let e : class_size class / 8 ≡ 0 = omega arith in
      let z : class_size class ≡ 0 = omega (arith, class_size-eights class) in
      let o = objects_of_none class z in omega arith)
]

pub room : (class i : ℕ) → i < class_objects class → (i + 1) * (class_size class / 8) ≤ 2032
room class i below =
    let most = objects-room class i below in
    let bytes : (i + 1) * class_size class ≡ 8 * ((i + 1) * (class_size class / 8)) =
    ap (λ n. (i + 1) * n) (class_size-eights class) ∙ eighths (i + 1) (class_size class / 8) in
    omega arith

pub unit-at : (e class i : ℕ) → e < 2 ^ 32 → i < class_objects class
    → unit_of e class i ≡ e * 1024 + (2048 - (i + 1) * (class_size class / 8))
unit-at e class i few below =
    let unit = units_are_offsets e class i few in
    let most = objects-room class i below in
    let bytes : (i + 1) * class_size class ≡ 8 * ((i + 1) * (class_size class / 8)) =
    ap (λ n. (i + 1) * n) (class_size-eights class) ∙ eighths (i + 1) (class_size class / 8) in
    omega arith

-- it is in its slab
pub unit-inside : (e class i : ℕ) → e < 2 ^ 32 → e / 2 * 2 ≡ e → i < class_objects class
    → slab_of (unit_of e class i) ≡ e
unit-inside e class i few even below =
    let at = unit-at e class i few below in
    let most = room class i below in
    let some = size_some class i below in
    let more : (i + 1) * (class_size class / 8) ≡ i * (class_size class / 8) + class_size class / 8 = grind arith in
    omega arith

pub unit-below : (e class i : ℕ) → e < 2 ^ 32 → i < class_objects class → unit_of e class i < (e + 2) * 1024
unit-below e class i few below =
    let at = unit-at e class i few below in
    let some = size_some class i below in
    let more : (i + 1) * (class_size class / 8) ≡ i * (class_size class / 8) + class_size class / 8 = grind arith in
    omega arith

units-differ : (e class i j : ℕ) → e < 2 ^ 32 → i < j → j < class_objects class
    → unit_of e class i ≢ unit_of e class j
units-differ e class i j few less below same =
    let one = unit-at e class i few (omega arith) in
    let other = unit-at e class j few below in
    let most = room class j below in
    let some = size_some class j below in
    let next : (i + 1) + 1 ≤ j + 1 = omega arith in
    let m = mul-le-mul_right (class_size class / 8) next in
    let more : ((i + 1) + 1) * (class_size class / 8) ≡ (i + 1) * (class_size class / 8) + class_size class / 8 =
    grind arith in
    omega arith

-- different objects begin at different units
pub units-once : (e class i j : ℕ) → e < 2 ^ 32 → i < class_objects class → j < class_objects class
    → unit_of e class i ≡ unit_of e class j → i ≡ j
units-once e class i j few one other same = elim (cases_order i j) [
  | inl e ↦ e
  | inr (inl less) ↦ absurd (units-differ e class i j few less other same)
  | inr (inr more) ↦ absurd (units-differ e class j i few more one (sym same))
]
