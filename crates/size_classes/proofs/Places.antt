-- Where a slab's objects lie, by the size of its class and how many objects it has.
use Rattle.std.proofs.Common.{◌≡◌, ℕ, ◌+◌, ◌-◌, ◌*◌, ◌/◌, ◌<◌, ◌≤◌, arith, refl, ap, ◌∙◌, zero-mul}
use Rattle.std.proofs.Math.Nat.{mul-le-mul_right, div-le_self}
use Rattle.pool_types.specs.Geometry.{slab_bytes, objects_bytes}
use Rattle.size_classes.specs.Classes.{class_size, class_objects}
use Rattle.size_classes.proofs.Sizes.{class_objects-fit, class_size-eights, class_size-sixteens}
use Rattle.size_classes.specs.Layout.{object_offset, ObjectsLieInSlab, ObjectsAreApart, RestShrinksFromEnd, SlabsAreLaidOut}

-- one object more takes as many bytes more as it has
pub bytes-next : (object size : ℕ) → (object + 1) * size ≡ object * size + size
bytes-next object size = grind arith

-- an object and those before it have room in a slab
pub objects-room : (class object : ℕ) → object < class_objects class → (object + 1) * class_size class ≤ objects_bytes
objects-room class object below =
    let next : object + 1 ≤ class_objects class = omega arith in
    omega (arith, mul-le-mul_right (class_size class) next, class_objects-fit class)

-- no slab has more objects than that
pub class_objects-below : (class : ℕ) → class_objects class ≤ objects_bytes
unfolding class_objects
class_objects-below class = div-le_self objects_bytes (class_size class)

-- a multiple of a number, taken so often, is one still
pub multiple-times : (count unit times : ℕ) → count * (unit * times) ≡ unit * (count * times)
multiple-times count unit times = grind arith

-- each object starts at a multiple of 8
pub object_offset-eights : (class object : ℕ) → object_offset class object ≡ 8 * (object_offset class object / 8)
object_offset-eights class object =
    let bytes : (object + 1) * class_size class ≡ 8 * ((object + 1) * (class_size class / 8)) =
    ap (λ size. (object + 1) * size) (class_size-eights class) ∙ multiple-times (object + 1) 8 (class_size class / 8) in
    omega (arith, bytes)

-- and at a multiple of 16, but for the smallest class
pub object_offset-sixteens : (class object : ℕ) → 0 < class → object_offset class object ≡ 16 * (object_offset class object / 16)
object_offset-sixteens class object above =
    let bytes : (object + 1) * class_size class ≡ 16 * ((object + 1) * (class_size class / 16)) =
    ap (λ size. (object + 1) * size) (class_size-sixteens class above) ∙ multiple-times (object + 1) 16 (class_size class / 16) in
    omega (arith, bytes)

-- where an object starts, by the size of its class
pub object_offset-sized : (class object size : ℕ) → size ≡ class_size class → slab_bytes - (object + 1) * size ≡ object_offset class object
object_offset-sized class object size is = ap (λ bytes. slab_bytes - (object + 1) * bytes) is

pub objects_lie_in_slab : ObjectsLieInSlab
objects_lie_in_slab class object below =
    let next : object + 1 ≤ class_objects class = omega arith in
    let room : (object + 1) * class_size class ≤ class_objects class * class_size class = mul-le-mul_right (class_size class) next in
    record {
      behind_head = omega (arith, room);
      before_end = omega (arith, bytes-next object (class_size class), objects-room class object below);
    }

pub objects_are_apart : ObjectsAreApart
objects_are_apart class earlier later below before =
    let next : earlier + 1 ≤ later = omega arith in
    omega (arith, mul-le-mul_right (class_size class) next, bytes-next later (class_size class), objects-room class later below)

pub rest_shrinks_from_end : RestShrinksFromEnd
rest_shrinks_from_end class object below = record {
  ends = omega (arith, bytes-next object (class_size class), objects-room class object below);
  starts = refl;
}

pub slabs_are_laid_out : SlabsAreLaidOut
slabs_are_laid_out class = record {
  head = omega (arith, class_objects-fit class);
  first = omega (arith, zero-mul (class_size class));
  last = refl;
}
