-- Powers of two: that a number with one set bit is one, and the other way round.
use Rattle.std.proofs.Common.{◌≡◌, ℕ, ◌+◌, ◌*◌, ◌/◌, ◌%◌, ◌^◌, ◌<◌, ◌≤◌, ◌↔◌, true, suc, zero, sym, ◌∙◌, ap, ap₂, arith, lit≤, inl, inr, eqb-true, eq-eqb}
use Rattle.std.specs.Int.{is_power_of_two, IsPowerOfTwo}
use Rattle.std.specs.Int.RustNames.{count_ones}
use Rattle.std.specs.Int.Count.{ones_step, ones-ones}
use Rattle.std.proofs.lemmas.Nat.{ones_cat, zero_from_ones}
use Rattle.std.proofs.lemmas.Bool.{cases_lt}
use Rattle.std.proofs.Math.Nat.{pow-suc, pow-le-pow_right}

-- a power of two has one set bit
pub count_ones-power : (k : ℕ) → count_ones (2 ^ k) ≡ 1
count_ones-power k =
    let power : 1 ≤ 2 ^ k = pow-le-pow_right {n = 2} (lit≤ tt) {i = 0} {j = k} (omega arith) in
    let same : 2 ^ k ≡ 1 * 2 ^ k + 0 = omega arith in
    ap count_ones same ∙ ones_cat k 1 0 (omega arith) ∙ ap₂ (λ one none. one + none) (ones-ones 1) (ones-ones 0)

-- a number with one set bit is a power of two
pub power-of_one : (bound n : ℕ) → n ≤ bound → count_ones n ≡ 1 → IsPowerOfTwo n
power-of_one zero n below one = absurd (let none : n ≡ 0 = omega arith in omega (arith, ap count_ones none, ones-ones 0, one))
power-of_one (suc bound) n below one =
    let step : count_ones n ≡ n % 2 + count_ones (n / 2) = ones_step n in
    elim (cases_lt (n % 2) 1) [
      | inl even ↦
          let half = power-of_one bound (n / 2) (omega arith) (omega arith) in
          (suc half.0, (let double : n ≡ 2 ^ half.0 * 2 = omega (arith, half.1) in double ∙ sym (pow-suc 2 half.0)))
      | inr odd ↦
          let none : n / 2 ≡ 0 = zero_from_ones (n / 2) (omega arith) in
          (0, omega arith)
    ]

-- the test and what it says
pub is_power_of_two-is : (n : ℕ) → (is_power_of_two n ≡ true) ↔ IsPowerOfTwo n
is_power_of_two-is n = (
  λ one. power-of_one n n (omega arith) (eqb-true _ _ one),
  λ power. eq-eqb _ _ (ap count_ones power.1 ∙ count_ones-power power.0),
)

-- a power of two is not 0
pub power-positive : (n : ℕ) → IsPowerOfTwo n → 0 < n
power-positive n power =
    let least : 2 ^ 0 ≤ 2 ^ power.0 = pow-le-pow_right {n = 2} (lit≤ tt) {i = 0} {j = power.0} (omega arith) in
    omega (arith, power.1)

-- a power that is smaller than another has the smaller exponent
pub exponent-below : (k limit : ℕ) → 2 ^ k < 2 ^ limit → k < limit
exponent-below k limit below =
    elim (cases_lt k limit) [
      | inl low ↦ low
      | inr high ↦ absurd (let power : 2 ^ limit ≤ 2 ^ k = pow-le-pow_right {n = 2} (lit≤ tt) {i = limit} {j = k} high in omega arith)
    ]
