-- Sums over the first numbers.
use Rattle.std.specs.Prelude.{ℕ, ◌+◌}
use Prim.Native.Nat.{zero, suc}

-- the sum of a function over the first numbers
unfoldable pub sum_below : (ℕ → ℕ) → ℕ → ℕ
sum_below f zero = 0
sum_below f (suc n) = sum_below f n + f n
