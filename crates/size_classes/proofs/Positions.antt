-- The class of a size: that the positions which the code finds are the first that are not smaller.
use Rattle.std.proofs.Common.{◌≡◌, ℕ, ◌+◌, ◌-◌, ◌*◌, ◌/◌, ◌^◌, ◌<◌, ◌≤◌, true, Some, None, get_or, nat_le, nat_lt, suc, zero, sym, ◌∙◌, arith, ap, subst, cond, lit≤, lit<, inl, inr}
use Rattle.std.specs.List.{position_or_len}
use Rattle.std.proofs.lemmas.List.Sums.{position_or_len_is}
use Rattle.std.proofs.Math.Nat.{pow-le-pow_right}
use Rattle.std.proofs.lemmas.Bool.Decides.{nat_tests}
use Rattle.std.proofs.lemmas.Bool.{cases_lt}
use Rattle.size_classes.specs.Classes.{class_sizes, class_size, class_of, IsFirstClass}
use Rattle.size_classes.proofs.Sizes.{class_size-most, class_size-rises, class_size-quarters}

-- a class that is not smaller, where the one before it is, is the first
pub first_at : (size class : ℕ) → class < 26 → size ≤ class_size class → (0 < class → class_size (class - 1) < size) → IsFirstClass size class
first_at size class exists fits before = record {
  exists = exists;
  fits = fits;
  first = λ lower below.
      let rises : class_size lower ≤ class_size (lower + (class - 1 - lower)) = class_size-rises lower (class - 1 - lower) (omega arith) in
      let last : class_size (class - 1) < size = before (omega arith) in
      omega (arith, ap class_size (let same : lower + (class - 1 - lower) ≡ class - 1 = omega arith in same));
}

-- the class that is the first is what the definition finds
pub class_of-is : (size class : ℕ) → IsFirstClass size class → class_of size ≡ Some class
unfolding class_of class_size
class_of-is size class is =
    let exists : class < 26 = is.exists in
    let place : position_or_len (λ bytes. nat_le size bytes) class_sizes ≡ class =
    position_or_len_is (λ bytes. nat_le size bytes) class_sizes class 0 (omega arith)
    (λ k below. let first : get_or class_sizes k 0 < size = is.first k below in grind (arith, nat_tests))
    (λ _. let fits : size ≤ get_or class_sizes class 0 = is.fits in grind (arith, nat_tests)) in
    ap (λ p. cond (nat_lt p 26) (Some p) None) place ∙ (let below : nat_lt class 26 ≡ true = grind (arith, nat_tests) in ap (λ b. cond b (Some class) None) below)

-- from 8129 on there is none
pub class_of-none : (size : ℕ) → 8128 < size → class_of size ≡ None
unfolding class_of class_size
class_of-none size large =
    let place : position_or_len (λ bytes. nat_le size bytes) class_sizes ≡ 26 =
    position_or_len_is (λ bytes. nat_le size bytes) class_sizes 26 0 (lit≤ tt)
    (λ k below. let most : get_or class_sizes k 0 ≤ 8128 = class_size-most k in grind (arith, nat_tests))
    (λ never. absurd (omega arith)) in
    ap (λ p. cond (nat_lt p 26) (Some p) None) place

-- what a found class says of the definition
pub ruleset class_found = (class_of-is, class_of-none)

-- the last class is 8128
pub class_size-last : (size : ℕ) → size ≤ 8128 → size ≤ class_size 25
unfolding class_size
class_size-last size most = most

-- a size for which a class is large enough has a first one
pub first_below : (size class : ℕ) → class < 26 → size ≤ class_size class → (found : ℕ) × IsFirstClass size found
first_below size zero exists fits = (zero, first_at size zero exists fits (λ never. absurd (omega arith)))
first_below size (suc class) exists fits =
    elim (cases_lt (class_size class) size) [
      | inl above ↦ (suc class, first_at size (suc class) exists fits (λ _. omega (arith, ap class_size (let same : suc class - 1 ≡ class = omega arith in same))))
      | inr below ↦ first_below size class (omega arith) below
    ]

-- a size up to 8128 has a class
pub class_of-some : (size : ℕ) → size ≤ 8128 → (class : ℕ) × (class_of size ≡ Some class) × IsFirstClass size class
class_of-some size most =
    let found = first_below size 25 (lit< tt) (class_size-last size most) in
    (found.0, class_of-is size found.0 found.1, found.1)

-- what the definition finds is the first class that is not smaller
pub class_of-found : (size class : ℕ) → class_of size ≡ Some class → IsFirstClass size class
class_of-found size class found =
    elim (cases_lt 8128 size) [
      | inl large ↦ absurd (let none : None ≡ Some class = sym (class_of-none size large) ∙ found in cc)
      | inr small ↦
          let some = class_of-some size small in
          let both : Some some.0 ≡ Some class = sym some.1 ∙ found in
          let same : some.0 ≡ class = cc in
          subst (IsFirstClass size) same some.2
    ]

-- in a doubling it is the end of the quarter that has the size
pub at_quarter : (size doubling quarter : ℕ) → doubling < 4 → quarter < 4 → 2 ^ (doubling + 4) * (4 + quarter) < size → size ≤ 2 ^ (doubling + 4) * (4 + (quarter + 1)) → IsFirstClass size (4 * doubling + 5 + quarter)
at_quarter size doubling quarter doubles within above most =
    let here : class_size (4 * doubling + 4 + (quarter + 1)) ≡ 2 ^ (doubling + 4) * (4 + (quarter + 1)) = class_size-quarters doubling (quarter + 1) doubles (omega arith) in
    let before : class_size (4 * doubling + 4 + quarter) ≡ 2 ^ (doubling + 4) * (4 + quarter) = class_size-quarters doubling quarter doubles (omega arith) in
    let same_here : 4 * doubling + 4 + (quarter + 1) ≡ 4 * doubling + 5 + quarter = omega arith in
    let same_before : 4 * doubling + 4 + quarter ≡ 4 * doubling + 5 + quarter - 1 = omega arith in
    first_at size (4 * doubling + 5 + quarter) (omega arith) (omega (arith, ap class_size same_here)) (λ _. omega (arith, ap class_size same_before))

-- the highest bit of what is below a size from 65 to 1024 is bit 6, 7, 8 or 9
pub order_from : (size order : ℕ) → 64 < size → size - 1 < 2 * 2 ^ order → 6 ≤ order
order_from size order above most =
    elim (cases_lt order 6) [
      | inl low ↦ absurd (let power : 2 ^ order ≤ 2 ^ 5 = pow-le-pow_right {n = 2} (lit≤ tt) {i = order} {j = 5} (omega arith) in omega arith)
      | inr high ↦ high
    ]

pub order_below : (size order : ℕ) → size ≤ 1024 → 2 ^ order ≤ size - 1 → 0 < size → order < 10
order_below size order most least some =
    elim (cases_lt order 10) [
      | inl low ↦ low
      | inr high ↦ absurd (let power : 2 ^ 10 ≤ 2 ^ order = pow-le-pow_right {n = 2} (lit≤ tt) {i = 10} {j = order} high in omega arith)
    ]

-- the bits below the highest say how many quarters of a doubling are full
pub at_bits : (size doubling : ℕ) → 2 ^ (doubling + 6) ≤ size - 1 → size - 1 < 2 * 2 ^ (doubling + 6) → doubling < 4 → IsFirstClass size (4 * (doubling + 6) + (size - 1) / 2 ^ (doubling + 6 - 2) - 23)
at_bits size zero least most low = subst (IsFirstClass size) (let same : 5 + ((size - 1) / 16 - 4) ≡ 24 + (size - 1) / 16 - 23 = omega arith in same) (at_quarter size 0 ((size - 1) / 16 - 4) low (omega arith) (omega arith) (omega arith))
at_bits size (suc zero) least most low = subst (IsFirstClass size) (let same : 9 + ((size - 1) / 32 - 4) ≡ 28 + (size - 1) / 32 - 23 = omega arith in same) (at_quarter size 1 ((size - 1) / 32 - 4) low (omega arith) (omega arith) (omega arith))
at_bits size (suc (suc zero)) least most low = subst (IsFirstClass size) (let same : 13 + ((size - 1) / 64 - 4) ≡ 32 + (size - 1) / 64 - 23 = omega arith in same) (at_quarter size 2 ((size - 1) / 64 - 4) low (omega arith) (omega arith) (omega arith))
at_bits size (suc (suc (suc zero))) least most low = subst (IsFirstClass size) (let same : 17 + ((size - 1) / 128 - 4) ≡ 36 + (size - 1) / 128 - 23 = omega arith in same) (at_quarter size 3 ((size - 1) / 128 - 4) low (omega arith) (omega arith) (omega arith))
at_bits size (suc (suc (suc (suc doubling)))) least most low = absurd (omega arith)

-- the class from the highest bit
pub at_order : (size order : ℕ) → 64 < size → size ≤ 1024 → 2 ^ order ≤ size - 1 → size - 1 < 2 * 2 ^ order → IsFirstClass size (4 * order + (size - 1) / 2 ^ (order - 2) - 23)
at_order size order above most least below =
    let from : 6 ≤ order = order_from size order above below in
    let upto : order < 10 = order_below size order most least (omega arith) in
    let same : order - 6 + 6 ≡ order = omega arith in
    subst (λ o. IsFirstClass size (4 * o + (size - 1) / 2 ^ (o - 2) - 23)) same
    (at_bits size (order - 6) (subst (λ o. 2 ^ o ≤ size - 1) (let back : order ≡ order - 6 + 6 = omega arith in back) least) (subst (λ o. size - 1 < 2 * 2 ^ o) (let back : order ≡ order - 6 + 6 = omega arith in back) below) (omega arith))
