-- A test that holds at each number below a bound, found by computing.
use Rattle.std.proofs.Common.{◌≡◌, ℕ, ◌<◌, Bool, true, suc, zero, subst, arith, ◌&&◌, inl, inr}
use Rattle.std.proofs.lemmas.Bool.{and_parts, cases_lt}

-- the test holds at each number below the bound
unfoldable pub all_below : (ℕ → Bool) → ℕ → Bool
all_below test zero = true
all_below test (suc bound) = test bound && all_below test bound

-- so it holds at this one
pub all_below-at : (test : ℕ → Bool) (bound at : ℕ) → all_below test bound ≡ true → at < bound → test at ≡ true
unfolding all_below
all_below-at test zero at all within = absurd (omega arith)
all_below-at test (suc bound) at all within =
    let parts = and_parts (test bound) (all_below test bound) all in
    elim (cases_lt at bound) [
      | inl below ↦ all_below-at test bound at parts.1 below
      | inr above ↦ let same : bound ≡ at = omega arith in subst (λ k. test k ≡ true) same parts.0
    ]
