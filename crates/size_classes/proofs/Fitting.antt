-- How well the first class that is not smaller fits a size.
use Rattle.std.proofs.Common.{◌≡◌, ℕ, ◌+◌, ◌-◌, ◌*◌, ◌/◌, ◌%◌, ◌^◌, ◌<◌, ◌≤◌, true, nat_eq, nat_lt, get_or, ◌∷◌, suc, zero, refl, ap, subst, arith, ◌||◌, inl, inr, eqb-true, leb-true}
use Rattle.std.proofs.Math.Nat.{div-lt_iff_lt-mul, le-div_iff_mul-le}
use Rattle.std.proofs.lemmas.Nat.{div-add-mod'}
use Rattle.std.proofs.lemmas.Bool.{cases_lt, or_cases}
use Rattle.size_classes.specs.Classes.{class_sizes, class_size, IsFirstClass}
use Rattle.size_classes.proofs.Below.{all_below, all_below-at}
use Rattle.size_classes.proofs.Sizes.{class_size-rises}
use Rattle.size_classes.proofs.Powers.{power-positive}

-- the class at position 20 is the largest of the doublings
pub class_size-doubled : class_size 20 ≡ 1024
unfolding class_size
class_size-doubled = refl

-- a size up to 1024 has a class up to position 20
pub first-up_to_doubled : (size class : ℕ) → size ≤ 1024 → IsFirstClass size class → class < 21
first-up_to_doubled size class small is =
    elim (cases_lt class 21) [
      | inl low ↦ low
      | inr high ↦ absurd (let first : class_size 20 < size = is.first 20 (omega arith) in omega (arith, class_size-doubled))
    ]

-- a larger size has a class above it
pub first-past_doubled : (size class : ℕ) → 1024 < size → IsFirstClass size class → 20 < class
first-past_doubled size class large is =
    elim (cases_lt 20 class) [
      | inl high ↦ high
      | inr low ↦ absurd
          (let rises : class_size class ≤ class_size (class + (20 - class)) = class_size-rises class (20 - class) (omega arith) in
          omega (arith, is.fits, class_size-doubled, ap class_size (let same : class + (20 - class) ≡ 20 = omega arith in same)))
    ]

-- the size of the class before, and 0 before the first
size_before : ℕ → ℕ
size_before class = get_or (0 ∷ class_sizes) class 0

-- it is below a size that has this class
size_before-below : (size class : ℕ) → 0 < size → IsFirstClass size class → size_before class < size
unfolding size_before class_size
size_before-below size zero some is = some
size_before-below size (suc class) some is = is.first class (omega arith)

-- up to 1024, the first class for a multiple of a power of two is a multiple of it: any other class has no multiple between the class before and itself
pub class_size-whole : (size class k : ℕ) → 0 < size → size ≤ 1024 → size % 2 ^ k ≡ 0 → IsFirstClass size class → k < 11 → class_size class % 2 ^ k ≡ 0
unfolding class_size size_before all_below
class_size-whole size class k some small whole is low =
    let tested : (nat_eq (class_size class % 2 ^ k) 0 || nat_eq (class_size class / 2 ^ k) (size_before class / 2 ^ k)) ≡ true =
    all_below-at (λ j. nat_eq (class_size class % 2 ^ j) 0 || nat_eq (class_size class / 2 ^ j) (size_before class / 2 ^ j)) 11 k
    (all_below-at (λ c. all_below (λ j. nat_eq (class_size c % 2 ^ j) 0 || nat_eq (class_size c / 2 ^ j) (size_before c / 2 ^ j)) 11) 21 class refl (first-up_to_doubled size class small is))
    low in
    elim (or_cases (nat_eq (class_size class % 2 ^ k) 0) (nat_eq (class_size class / 2 ^ k) (size_before class / 2 ^ k)) tested) [
      | inl multiple ↦ eqb-true _ _ multiple
      | inr none ↦ absurd
          (let same : class_size class / 2 ^ k ≡ size_before class / 2 ^ k = eqb-true _ _ none in
          let positive : 0 < 2 ^ k = power-positive (2 ^ k) (k, refl) in
          let parts : size / 2 ^ k * 2 ^ k + size % 2 ^ k ≡ size = div-add-mod' size (2 ^ k) in
          let before : size_before class < size = size_before-below size class some is in
          let fits : size ≤ class_size class = is.fits in
          let here : size / 2 ^ k ≤ class_size class / 2 ^ k = (le-div_iff_mul-le positive).1 (omega arith) in
          let past : size_before class / 2 ^ k < size / 2 ^ k = (div-lt_iff_lt-mul positive).1 (omega arith) in
          omega arith)
    ]

-- the classes above 1024 are multiples of 64
pub class_size-lines : (class k : ℕ) → 20 < class → class < 26 → k < 7 → class_size class % 2 ^ k ≡ 0
unfolding class_size all_below
class_size-lines class k high exists low =
    subst (λ c. class_size c % 2 ^ k ≡ 0) (let same : 21 + (class - 21) ≡ class = omega arith in same)
    (eqb-true _ _
    (all_below-at (λ j. nat_eq (class_size (21 + (class - 21)) % 2 ^ j) 0) 7 k
    (all_below-at (λ c. all_below (λ j. nat_eq (class_size (21 + c) % 2 ^ j) 0) 7) 5 (class - 21) refl (omega arith))
    low))

-- from 65 to 1024 less than a quarter of the size is lost
pub class_size-tight : (size class : ℕ) → 64 < size → size ≤ 1024 → IsFirstClass size class → 4 * (class_size class - size) < size
unfolding class_size all_below
class_size-tight size class above small is =
    let low : class < 21 = first-up_to_doubled size class small is in
    let high : 4 < class =
    elim (cases_lt 4 class) [
      | inl more ↦ more
      | inr less ↦ absurd
          (let rises : class_size class ≤ class_size (class + (4 - class)) = class_size-rises class (4 - class) (omega arith) in
          omega (arith, is.fits, ap class_size (let same : class + (4 - class) ≡ 4 = omega arith in same)))
    ] in
    let step : 4 * class_size (5 + (class - 5)) < 5 * class_size (4 + (class - 5)) + 5 =
    leb-true _ _ (all_below-at (λ c. nat_lt (4 * class_size (5 + c)) (5 * class_size (4 + c) + 5)) 16 (class - 5) refl (omega arith)) in
    let before : class_size (4 + (class - 5)) < size = is.first (4 + (class - 5)) (omega arith) in
    let fits : size ≤ class_size class = is.fits in
    omega (arith, ap class_size (let same : 5 + (class - 5) ≡ class = omega arith in same))
