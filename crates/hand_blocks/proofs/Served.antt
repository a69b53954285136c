-- A large object is served by some granules.
use Rattle.std.proofs.Common.{◌+◌, ◌<◌, ℕ, Bool, true, false, cond, arith}
use Rattle.std.specs.Prelude.{None, Option, Some, ◌==◌, ◌||◌, max, not, ⊤}
use Rattle.std.specs.Int.{is_power_of_two}
use Rattle.pool_types.specs.Geometry.{granules_of, line_bytes}
use Rattle.size_classes.specs.Served.{aligned_class, large_at, served, served_plain, small_or}
use Rattle.size_classes.specs.declared.Served as classes
use Rattle.step_local.specs.Getting.{good_of, served_as}
use Rattle.step_local.specs.declared.frames.Served.{Served}
use Rattle.size_classes.specs.Classes.{class_of}

abbrev pub IsGood : Option Served → Type 0
IsGood (Some (Served.Small class)) = ⊤
IsGood (Some (Served.Large granules alignment)) = 0 < granules
IsGood None = ⊤

some_granules : (bytes : ℕ) → 0 < bytes → 0 < granules_of bytes
some_granules bytes some = omega arith

good_small_or : (one : Option ℕ) (size alignment : ℕ) → 0 < alignment
    → IsGood (good_of (small_or one (large_at size alignment)))
good_small_or (Some class) size alignment some = tt
good_small_or None size alignment some = some_granules (size + alignment) (omega arith)

good_plain : (size : ℕ) → IsGood (good_of (served_plain size))
unfolding served_plain
good_plain size = good_small_or (class_of size) size line_bytes (omega arith)

good_aligned : (size alignment : ℕ) → IsGood (good_of (served size alignment))
unfolding served
good_aligned size alignment = by (size == 0 || not (is_power_of_two alignment))
  where
    by : (b : Bool) → IsGood (good_of (cond b classes.Served.Bad
        (small_or (aligned_class size alignment) (large_at size (max line_bytes alignment)))))
    by true = tt
    by false = good_small_or (aligned_class size alignment) size (max line_bytes alignment) (omega arith)

pub good_served : (size : ℕ) (alignment : Option ℕ) → IsGood (served_as size alignment)
good_served size (Some alignment) = good_aligned size alignment
good_served size None = good_plain size
