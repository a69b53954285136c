-- A block that is served has room for its object at the alignment.
use Rattle.std.proofs.Common.{◌≡◌, ◌∙◌, ℕ, Bool, true, false, not, ◌+◌, ◌-◌, ◌*◌, ◌<◌, ◌≤◌, ◌^◌, ◌||◌, Option, Some}
use Rattle.std.proofs.Common.{None}
use Rattle.std.proofs.Common.{max, refl, ap, subst, arith}
use Rattle.std.proofs.Math.Nat.{lt-div-mul-add}
use Rattle.std.proofs.lemmas.Bool.Decides.{nat_tests}
use Rattle.std.specs.Prelude.{if◌then◌else◌, ◌==◌}
use Rattle.std.proofs.lemmas.Nat.{pow-add}
use Rattle.word_laws.proofs.CallerLemmas.{less_or}
use Rattle.std.specs.Int.{IsPowerOfTwo, is_power_of_two}
use Rattle.pool_types.specs.Geometry.{granule_bytes, granules_of, line_bytes}
use Rattle.size_classes.specs.Served.{aligned_class, large_at, served, served_plain, small_or}
use Rattle.size_classes.specs.Classes.{class_of}
use Rattle.size_classes.specs.declared.Served as classes
use Rattle.size_classes.proofs.Powers.{exponent-below, is_power_of_two-is}
use Rattle.pool_types.specs.declared.values.Request.{Request}
use Rattle.step_local.specs.declared.frames.Served.{Served}
use Rattle.step_local.specs.Getting.{good_of, served_as}
use Rattle.step_fits.specs.Frames.{wanted_of}
use Rattle.slab_places.proofs.Units.{HasRoom}

up : (bytes : ℕ) → bytes ≤ granules_of bytes * granule_bytes
up bytes = omega (arith, lt-div-mul-add {a = bytes + 8191} {b = 8192} (omega arith))

-- a power of two above half a granule is a multiple of one
record IsMultiple (n : ℕ) : Type 0 where
  pub times : ℕ
  pub is : n ≡ times * 8192

multiple : (n : ℕ) → IsPowerOfTwo n → 4096 < n → IsMultiple n
multiple n power high =
    let more : 12 < power.0 = exponent-below 12 power.0 (let same = power.1 in omega (arith, same)) in
    let split : power.0 ≡ (power.0 - 13) + 13 = omega arith in
    record {
      times = 2 ^ (power.0 - 13);
      is = power.1 ∙ ap (λ i. 2 ^ i) split ∙ pow-add 2 (power.0 - 13) 13;
    }

room_aligned : (size alignment : ℕ) → 0 < size → IsPowerOfTwo alignment
    → HasRoom (granules_of (size + max 64 alignment)) (max 64 alignment)
room_aligned size alignment some power = less_or 4096 alignment
    (λ high. let m = multiple alignment power high in
    let n = m.times in
    let is : alignment ≡ n * 8192 = m.is in
    let low = up (size + max 64 alignment) in
    omega (arith, is, low))
    (λ few. let low = up (size + max 64 alignment) in omega (arith, low))

room_plain : (size : ℕ) → HasRoom (granules_of (size + 64)) 64
room_plain size = let low = up (size + 64) in omega (arith, low)

chosen : (class : Option ℕ) (size alignment granules other : ℕ)
    → good_of (small_or class (large_at size alignment)) ≡ Some (Served.Large granules other)
    → HasRoom (granules_of (size + alignment)) alignment → HasRoom granules other
chosen (Some class) size alignment granules other is room = absurd (cc)
chosen None size alignment granules other is room =
    let long : granules_of (size + alignment) ≡ granules = cc in
    let same : alignment ≡ other = cc in
    subst (λ g. HasRoom g other) long (subst (HasRoom (granules_of (size + alignment))) same room)

plain_has_room : (size granules alignment : ℕ) → served_as size None ≡ Some (Served.Large granules alignment)
    → HasRoom granules alignment
unfolding served_plain
plain_has_room size granules alignment is = chosen (class_of size) size 64 granules alignment is (room_plain size)

aligned_has_room : (size asked granules alignment : ℕ)
    → served_as size (Some asked) ≡ Some (Served.Large granules alignment) → HasRoom granules alignment
unfolding served
aligned_has_room size asked granules alignment is = by (size == 0) (is_power_of_two asked) refl refl is
  where
    by : (a b : Bool) → (size == 0) ≡ a → is_power_of_two asked ≡ b
        → good_of (if (a || not b) then classes.Served.Bad
        else small_or (aligned_class size asked) (large_at size (max line_bytes asked)))
        ≡ Some (Served.Large granules alignment) → HasRoom granules alignment
    by true b none power is = absurd (cc)
    by false false none power is = absurd (cc)
    by false true none power is = chosen (aligned_class size asked) size (max 64 asked) granules alignment is
        (room_aligned size asked (grind (arith, nat_tests)) ((is_power_of_two-is asked).0 power))

pub wanted_has_room : (request : Request) (granules alignment : ℕ)
    → wanted_of request ≡ Some (Served.Large granules alignment) → HasRoom granules alignment
wanted_has_room (Request.Malloc size) granules alignment is = plain_has_room size granules alignment is
wanted_has_room (Request.Aligned size asked) granules alignment is =
    aligned_has_room size asked granules alignment is
wanted_has_room (Request.Realloc place size) granules alignment is = plain_has_room size granules alignment is
wanted_has_room (Request.AlignedRealloc place size asked) granules alignment is =
    aligned_has_room size asked granules alignment is
wanted_has_room (Request.Free place) granules alignment is = absurd (cc)
wanted_has_room (Request.Msize place) granules alignment is = absurd (cc)
wanted_has_room (Request.Identify place) granules alignment is = absurd (cc)
wanted_has_room Request.Exit granules alignment is = absurd (cc)
