-- Sums over the first numbers, and over all regions.
use Rattle.std.proofs.Common.{◌≡◌, ℕ, ◌+◌, ◌<◌, ◌^◌, ◌==◌, ◌&&◌, Bool, true, false, nat_lt, refl, ◌∙◌, arith}
use Rattle.std.specs.Prelude.{if◌then◌else◌}
use Rattle.std.proofs.lemmas.Bool.Decides.{nat_tests}
use Rattle.list_laws.proofs.Sums.{sum_below-same, sum_below-add, sum_below-none, sum_below-one}
use Rattle.part_model.specs.Totals.{sum_regions}
use Rattle.list_laws.specs.Sums.{sum_below}

-- functions that agree have one sum
pub sum_regions-same : (f g : ℕ → ℕ → ℕ) → ((pool region : ℕ) → pool < 2 ^ 16 → region < 2 ^ 32 → f pool region ≡ g pool region) → sum_regions f ≡ sum_regions g
unfolding sum_regions
sum_regions-same f g same =
    sum_below-same (λ p. sum_below (f p) (2 ^ 32)) (λ p. sum_below (g p) (2 ^ 32)) (2 ^ 16)
    (λ p in_pool. sum_below-same (f p) (g p) (2 ^ 32) (λ r in_region. same p r in_pool in_region))

pub sum_regions-add : (f g : ℕ → ℕ → ℕ) → sum_regions (λ p r. f p r + g p r) ≡ sum_regions f + sum_regions g
unfolding sum_regions
sum_regions-add f g =
    sum_below-same (λ p. sum_below (λ r. f p r + g p r) (2 ^ 32)) (λ p. sum_below (f p) (2 ^ 32) + sum_below (g p) (2 ^ 32)) (2 ^ 16)
    (λ p in_pool. sum_below-add (f p) (g p) (2 ^ 32))
    ∙ sum_below-add (λ p. sum_below (f p) (2 ^ 32)) (λ p. sum_below (g p) (2 ^ 32)) (2 ^ 16)

pub sum_regions-none : (f : ℕ → ℕ → ℕ) → ((pool region : ℕ) → f pool region ≡ 0) → sum_regions f ≡ 0
unfolding sum_regions
sum_regions-none f none =
    sum_below-none (λ p. sum_below (f p) (2 ^ 32)) (2 ^ 16) (λ p in_pool. sum_below-none (f p) (2 ^ 32) (λ r in_region. none p r))

-- a value at one region alone
pub sum_regions-one : (v pool region : ℕ) → pool < 2 ^ 16 → region < 2 ^ 32 → sum_regions (λ p r. if (p == pool) && (r == region) then v else 0) ≡ v
unfolding sum_regions
sum_regions-one v pool region in_pool in_region =
    sum_below-same (λ p. sum_below (λ r. if (p == pool) && (r == region) then v else 0) (2 ^ 32)) (λ p. if p == pool then v else 0) (2 ^ 16)
    (λ p below. by_test (p == pool))
    ∙ sum_below-one v pool (2 ^ 16) ∙ within pool (2 ^ 16) in_pool
  where
    within : (k n : ℕ) → k < n → (if nat_lt k n then v else 0) ≡ v
    within k n below = grind (arith, nat_tests)

    by_test : (b : Bool) → sum_below (λ r. if b && (r == region) then v else 0) (2 ^ 32) ≡ (if b then v else 0)
    by_test true = sum_below-one v region (2 ^ 32) ∙ within region (2 ^ 32) in_region
    by_test false = sum_below-none (λ r. 0) (2 ^ 32) (λ r below. refl)
