-- What a request is served as has a class, or a block with room for its object.
use Rattle.std.proofs.Common.{Bool, None, Option, Some, ap, arith, false, inl, inr, refl, subst, sym, true, ℕ}
use Rattle.std.proofs.Common.{◌&&◌, ◌*◌, ◌+◌, ◌-◌, ◌<◌, ◌^◌, ◌||◌, ◌∙◌, ◌≡◌, ◌≤◌}
use Rattle.std.specs.Prelude.{max, nat_le, not, ⊤, ◌==◌}
use Rattle.pool_types.specs.Geometry.{class_count, granule_bytes, granules_of, line_bytes}
use Rattle.pool_types.specs.Policies.{align_up}
use Rattle.size_classes.specs.Classes.{class_of, quarters_end}
use Rattle.size_classes.specs.Served.{aligned_class, large_at, small_or}
use Rattle.step_local.specs.Getting.{good_of, served_as}
use Rattle.step_local.specs.declared.frames.Served.{Served}
use Rattle.step_ranges.proofs.Numbers.{choose_by, or_right}
use Rattle.std.specs.Int.{is_power_of_two, IsPowerOfTwo}
use Rattle.std.proofs.Math.Nat.{pow-le-pow_right}
use Rattle.std.proofs.lemmas.Bool.{cases_lt}
use Rattle.std.proofs.lemmas.Bool.Decides.{nat_tests}
use Rattle.std.proofs.lemmas.Nat.{pow-add}
use Rattle.size_classes.proofs.CallerLemmas.{class_of-found}
use Rattle.size_classes.proofs.Powers.{is_power_of_two-is}
use Rattle.size_classes.specs.Served.{served, served_plain}

-- a served request, but for the span
abbrev pub WantedFits : Option Served → Type 0
WantedFits None = ⊤
WantedFits (Some (Served.Small class)) = class < class_count
WantedFits (Some (Served.Large granules alignment)) = max alignment 1 + line_bytes ≤ granules * granule_bytes

class_or : (found : Option ℕ) (size alignment : ℕ) → ((class : ℕ) → found ≡ Some class → class < class_count)
    → max alignment 1 + line_bytes ≤ granules_of (size + alignment) * granule_bytes
    → WantedFits (good_of (small_or found (large_at size alignment)))
class_or None size alignment low room = room
class_or (Some class) size alignment low room = low class refl

class_low_of : (size class : ℕ) → class_of size ≡ Some class → class < class_count
class_low_of size class found = (class_of-found size class found).exists

-- a small alignment leaves room in the first granule
little_room : (size alignment : ℕ) → line_bytes ≤ alignment → alignment ≤ 4096
    → max alignment 1 + line_bytes ≤ granules_of (size + alignment) * granule_bytes
little_room size alignment least most = omega arith

-- a multiple of the granule's bytes leaves the next granule
whole_room : (size alignment granules : ℕ) → 0 < size → 1 ≤ granules → alignment ≡ granules * granule_bytes
    → max alignment 1 + line_bytes ≤ granules_of (size + alignment) * granule_bytes
whole_room size alignment granules some least e = omega arith

power_room : (size power : ℕ) → 0 < size → line_bytes ≤ 2 ^ power
    → max (2 ^ power) 1 + line_bytes ≤ granules_of (size + 2 ^ power) * granule_bytes
power_room size power some least = elim (cases_lt power 13) [
  | inl low ↦ little_room size (2 ^ power) least
      (pow-le-pow_right {n = 2} (omega arith) {i = power} {j = 12} (omega arith))
  | inr high ↦
      let rest = power - 13 in
      let parts : 13 + rest ≡ power = omega arith in
      let whole : 2 ^ power ≡ 2 ^ 13 * 2 ^ rest = ap (λ p. 2 ^ p) (sym parts) ∙ pow-add 2 13 rest in
      let positive : 1 ≤ 2 ^ rest = pow-le-pow_right {n = 2} (omega arith) {i = 0} {j = rest} (omega arith) in
      whole_room size (2 ^ power) (2 ^ rest) some positive (omega (arith, whole))
]

pub plain_fits : (size : ℕ) → WantedFits (good_of (served_plain size))
unfolding served_plain
plain_fits size = class_or (class_of size) size line_bytes (class_low_of size)
    (little_room size line_bytes (omega arith) (omega arith))

none_low : (class : ℕ) → ◌≡◌ {A = Option ℕ} None (Some class) → class < class_count
none_low class e = absurd (cc)

class_by : (size alignment : ℕ) (found : Option ℕ) → ((class : ℕ) → found ≡ Some class → class < class_count)
    → max (max line_bytes alignment) 1 + line_bytes ≤ granules_of (size + max line_bytes alignment) * granule_bytes
    → WantedFits (good_of (small_or found (large_at size (max line_bytes alignment))))
class_by size alignment found low room = class_or found size (max line_bytes alignment) low room

aligned_fits : (size alignment : ℕ) → 0 < size → IsPowerOfTwo alignment
    → WantedFits (good_of (small_or (aligned_class size alignment) (large_at size (max line_bytes alignment))))
unfolding aligned_class
aligned_fits size alignment some power =
    choose_by (λ found. WantedFits (good_of (small_or found (large_at size (max line_bytes alignment)))))
    (nat_le size quarters_end && nat_le alignment quarters_end) _ _
    (λ both. class_by size alignment (class_of (align_up size alignment)) (class_low_of (align_up size alignment))
    (little_room size (max line_bytes alignment) (omega arith) (let low = small_by both in omega arith)))
    (λ other. choose_by (λ found. WantedFits (good_of (small_or found (large_at size (max line_bytes alignment)))))
    (nat_le alignment line_bytes) _ _
    (λ line. class_by size alignment (class_of size) (class_low_of size)
    (little_room size (max line_bytes alignment) (omega arith) (let low = line_by line in omega arith)))
    (λ high. class_by size alignment None none_low (high_room (high_by high))))
  where
    small_by : nat_le size quarters_end && nat_le alignment quarters_end ≡ true → alignment ≤ quarters_end
    small_by both = grind (arith, nat_tests)

    line_by : nat_le alignment line_bytes ≡ true → alignment ≤ line_bytes
    line_by line = grind (arith, nat_tests)

    high_by : nat_le alignment line_bytes ≡ false → line_bytes < alignment
    high_by high = grind (arith, nat_tests)

    high_room : line_bytes < alignment
        → max (max line_bytes alignment) 1 + line_bytes ≤ granules_of (size + max line_bytes alignment) * granule_bytes
    high_room high =
        let same : max line_bytes alignment ≡ 2 ^ power.0 = omega (arith, power.1) in
        subst (λ a. max a 1 + line_bytes ≤ granules_of (size + a) * granule_bytes) (sym same)
        (power_room size power.0 some (omega (arith, power.1)))

served_fits : (size alignment : ℕ) → WantedFits (good_of (served size alignment))
unfolding served
served_fits size alignment = choose_by (λ served. WantedFits (good_of served))
    (size == 0 || not (is_power_of_two alignment)) _ _ (λ bad. tt)
    (λ good. aligned_fits size alignment (some_by good) ((is_power_of_two-is alignment).0 (power_by good)))
  where
    some_by : (size == 0 || not (is_power_of_two alignment)) ≡ false → 0 < size
    some_by good = grind (arith, nat_tests)

    negated : (b : Bool) → not b ≡ false → b ≡ true
    negated true e = refl
    negated false e = absurd (cc)

    power_by : (size == 0 || not (is_power_of_two alignment)) ≡ false → is_power_of_two alignment ≡ true
    power_by good = negated (is_power_of_two alignment)
        (or_right (size == 0) (not (is_power_of_two alignment)) good)

pub served_as_fits : (size : ℕ) (alignment : Option ℕ) → WantedFits (served_as size alignment)
served_as_fits size None = plain_fits size
served_as_fits size (Some alignment) = served_fits size alignment
