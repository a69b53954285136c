-- The sizes of the classes. What is computed class by class stands as a test of all of them.
use Rattle.std.proofs.Common.{◌≡◌, ℕ, ◌+◌, ◌*◌, ◌/◌, ◌^◌, ◌<◌, ◌≤◌, nat_eq, nat_le, nat_lt, suc, zero, max, refl, arith, ap, inl, inr, eqb-true, leb-true}
use Rattle.std.proofs.Math.Nat.{div-mul-le_self, div-zero}
use Rattle.std.proofs.lemmas.Bool.{cases_lt}
use Rattle.std.proofs.lemmas.List.{get_or_past}
use Rattle.pool_types.specs.Geometry.{objects_bytes}
use Rattle.size_classes.specs.Classes.{class_sizes, class_size, class_objects}
use Rattle.size_classes.proofs.Below.{all_below, all_below-at}

-- past the last class there is no size
pub class_size-past : (class : ℕ) → 26 ≤ class → class_size class ≡ 0
unfolding class_size
class_size-past class past = get_or_past class_sizes class 0 past

-- the smallest class is 8
pub class_size-least : (class : ℕ) → class < 26 → 8 ≤ class_size class
unfolding class_size all_below
class_size-least class exists = leb-true _ _ (all_below-at (λ c. nat_le 8 (class_size c)) 26 class refl exists)

-- the largest class is 8128
pub class_size-most : (class : ℕ) → class_size class ≤ 8128
unfolding class_size all_below
class_size-most class =
    elim (cases_lt class 26) [
      | inl exists ↦ leb-true _ _ (all_below-at (λ c. nat_le (class_size c) 8128) 26 class refl exists)
      | inr past ↦ omega (arith, class_size-past class past)
    ]

-- each class is a multiple of 8
pub class_size-eights : (class : ℕ) → class_size class ≡ 8 * (class_size class / 8)
unfolding class_size all_below
class_size-eights class =
    elim (cases_lt class 26) [
      | inl exists ↦ eqb-true _ _ (all_below-at (λ c. nat_eq (class_size c) (8 * (class_size c / 8))) 26 class refl exists)
      | inr past ↦ omega (arith, class_size-past class past)
    ]

-- each class but the smallest is a multiple of 16
pub class_size-sixteens : (class : ℕ) → 0 < class → class_size class ≡ 16 * (class_size class / 16)
unfolding class_size all_below
class_size-sixteens zero above = absurd (omega arith)
class_size-sixteens (suc class) above =
    elim (cases_lt class 25) [
      | inl exists ↦ eqb-true _ _ (all_below-at (λ c. nat_eq (class_size (suc c)) (16 * (class_size (suc c) / 16))) 25 class refl exists)
      | inr past ↦ omega (arith, class_size-past (suc class) (omega arith))
    ]

-- each class is below the next
pub class_size-next : (class : ℕ) → class < 25 → class_size class < class_size (class + 1)
unfolding class_size all_below
class_size-next class exists = leb-true _ _ (all_below-at (λ c. nat_lt (class_size c) (class_size (c + 1))) 25 class refl exists)

-- the classes rise
pub class_size-rises : (class more : ℕ) → class + more < 26 → class_size class ≤ class_size (class + more)
class_size-rises class zero exists = omega (arith, ap class_size (let same : class + 0 ≡ class = omega arith in same))
class_size-rises class (suc more) exists =
    let before : class_size class ≤ class_size (class + more) = class_size-rises class more (omega arith) in
    let next : class_size (class + more) < class_size (class + more + 1) = class_size-next (class + more) (omega arith) in
    omega (arith, ap class_size (let same : class + suc more ≡ class + more + 1 = omega arith in same))

-- class 8 is the first, and up to 64 the others are the multiples of 16
pub class_size-low : (class : ℕ) → class < 5 → class_size class ≡ max 8 (16 * class)
unfolding class_size all_below
class_size-low class low = eqb-true _ _ (all_below-at (λ c. nat_eq (class_size c) (max 8 (16 * c))) 5 class refl low)

-- the same under a name that an attribute can have
pub ruleset low_sizes = (class_size-low)

-- from 64 to 1024 each doubling has four equal steps
pub class_size-quarters : (doubling quarter : ℕ) → doubling < 4 → quarter < 5 → class_size (4 * doubling + 4 + quarter) ≡ 2 ^ (doubling + 4) * (4 + quarter)
unfolding class_size all_below
class_size-quarters doubling quarter doubles within =
    eqb-true _ _
    (all_below-at (λ q. nat_eq (class_size (4 * doubling + 4 + q)) (2 ^ (doubling + 4) * (4 + q))) 5 quarter
    (all_below-at (λ d. all_below (λ q. nat_eq (class_size (4 * d + 4 + q)) (2 ^ (d + 4) * (4 + q))) 5) 4 doubling refl doubles)
    within)

-- the objects of a slab have room in it
pub class_objects-fit : (class : ℕ) → class_objects class * class_size class ≤ objects_bytes
unfolding class_objects
class_objects-fit class = div-mul-le_self objects_bytes (class_size class)

-- each slab has two objects or more
pub class_objects-least : (class : ℕ) → class < 26 → 2 ≤ class_objects class
unfolding class_objects class_size all_below
class_objects-least class exists = leb-true _ _ (all_below-at (λ c. nat_le 2 (class_objects c)) 26 class refl exists)

-- no slab has more than 2032 objects, and one of no class has none
pub class_objects-most : (class : ℕ) → class_objects class ≤ 2032
unfolding class_objects class_size all_below
class_objects-most class =
    elim (cases_lt class 26) [
      | inl exists ↦ leb-true _ _ (all_below-at (λ c. nat_le (class_objects c) 2032) 26 class refl exists)
      | inr past ↦ omega (arith, ap (λ size. objects_bytes / size) (class_size-past class past), div-zero objects_bytes)
    ]
