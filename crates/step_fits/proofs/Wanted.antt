-- What a request is served as has a class of the pool, or a block of one granule or more.
use Rattle.std.proofs.Common.{◌≡◌, ℕ, ◌<◌, ◌≤◌, Bool, true, false, cond, Option, Some, None, refl, arith}
use Rattle.std.specs.Prelude.{max, nat_le, not, ◌==◌, ◌&&◌, ◌||◌}
use Rattle.std.specs.Int.{is_power_of_two}
use Rattle.pool_types.specs.Geometry.{class_count, line_bytes}
use Rattle.pool_types.specs.Policies.{align_up}
use Rattle.size_classes.specs.declared.Served as classes
use Rattle.size_classes.specs.Classes.{class_of, quarters_end}
use Rattle.size_classes.specs.Served.{aligned_class, large_at, served, served_plain, small_or}
use Rattle.size_classes.proofs.CallerLemmas.{class_of-found}
use Rattle.step_local.specs.declared.frames.Served.{Served}
use Rattle.step_local.specs.Getting.{good_of, served_as}

-- but for the span
abbrev pub WantedFits : Option Served → Type 0
WantedFits None = Unit {0}
WantedFits (Some (Served.Small class)) = class < class_count
WantedFits (Some (Served.Large granules alignment)) = 1 ≤ granules

abbrev IsLow : Option ℕ → Type 0
IsLow None = Unit {0}
IsLow (Some class) = class < class_count

either_low : (b : Bool) (x y : Option ℕ) → IsLow x → IsLow y → IsLow (cond b x y)
either_low true x y one other = one
either_low false x y one other = other

class_low : (size : ℕ) (found : Option ℕ) → class_of size ≡ found → IsLow found
class_low size None is = tt
class_low size (Some class) is = (class_of-found size class is).exists

class_or : (found : Option ℕ) (size alignment : ℕ) → IsLow found → 1 ≤ alignment
    → WantedFits (good_of (small_or found (large_at size alignment)))
class_or None size alignment low some = omega arith
class_or (Some class) size alignment low some = low

plain_fits : (size : ℕ) → WantedFits (good_of (served_plain size))
unfolding served_plain
plain_fits size = class_or (class_of size) size line_bytes (class_low size (class_of size) refl) (omega arith)

aligned_low : (size alignment : ℕ) → IsLow (aligned_class size alignment)
unfolding aligned_class
aligned_low size alignment = either_low (nat_le size quarters_end && nat_le alignment quarters_end) _ _
    (class_low (align_up size alignment) (class_of (align_up size alignment)) refl)
    (either_low (nat_le alignment line_bytes) _ _ (class_low size (class_of size) refl) tt)

either_wanted : (b : Bool) (x y : classes.Served) → WantedFits (good_of x) → WantedFits (good_of y)
    → WantedFits (good_of (cond b x y))
either_wanted true x y one other = one
either_wanted false x y one other = other

served_fits : (size alignment : ℕ) → WantedFits (good_of (served size alignment))
unfolding served
served_fits size alignment = either_wanted (size == 0 || not (is_power_of_two alignment)) _ _ tt
    (class_or (aligned_class size alignment) size (max line_bytes alignment) (aligned_low size alignment)
    (omega arith))

pub wanted_fits : (size : ℕ) (alignment : Option ℕ) → WantedFits (served_as size alignment)
wanted_fits size None = plain_fits size
wanted_fits size (Some alignment) = served_fits size alignment
