-- Where a slab's head, its rest and its objects lie. Offsets are in bytes from the slab's start; objects go by their number.
use Rattle.std.specs.Prelude.{◌≡◌, ℕ, ◌+◌, ◌-◌, ◌*◌, ◌<◌, ◌≤◌}
use Rattle.pool_types.specs.Geometry.{slab_bytes, slab_header_bytes}
use Rattle.size_classes.specs.Classes.{class_size, class_objects}

-- where an object starts: the objects lie at the slab's end, the first one highest
abbrev pub object_offset : ℕ → ℕ → ℕ
object_offset class object = slab_bytes - (object + 1) * class_size class

-- the bytes of the head, which are what the objects leave
abbrev pub head_bytes : ℕ → ℕ
head_bytes class = slab_bytes - class_objects class * class_size class

-- where the rest ends after so many objects were handed out; it begins at the head's end
abbrev pub rest_end : ℕ → ℕ → ℕ
rest_end class handed = slab_bytes - handed * class_size class

-- an object lies between the head and the slab's end
pub record IsInSlab (class object : ℕ) : Type 0 where
  pub behind_head : head_bytes class ≤ object_offset class object
  pub before_end : object_offset class object + class_size class ≤ slab_bytes

-- each object of a slab lies between the slab's head and its end
abbrev pub ObjectsLieInSlab : Type 0
ObjectsLieInSlab = (class object : ℕ) → object < class_objects class → IsInSlab class object

-- of two objects of a slab, the later one ends where the earlier one starts or before
abbrev pub ObjectsAreApart : Type 0
ObjectsAreApart = (class earlier later : ℕ) → later < class_objects class → earlier < later →
    object_offset class later + class_size class ≤ object_offset class earlier

-- the next object of the rest is the highest one, and the rest after it ends where it starts
pub record IsHighestOfRest (class object : ℕ) : Type 0 where
  pub ends : object_offset class object + class_size class ≡ rest_end class object
  pub starts : rest_end class (object + 1) ≡ object_offset class object

-- objects are taken from the rest's end
abbrev pub RestShrinksFromEnd : Type 0
RestShrinksFromEnd = (class object : ℕ) → object < class_objects class → IsHighestOfRest class object

-- the head has a slab's header, a slab of which nothing was handed out has its rest up to its end, and one of which all was
-- handed out has none
pub record IsLaidOut (class : ℕ) : Type 0 where
  pub head : slab_header_bytes ≤ head_bytes class
  pub first : rest_end class 0 ≡ slab_bytes
  pub last : rest_end class (class_objects class) ≡ head_bytes class

-- so is the slab of each class
abbrev pub SlabsAreLaidOut : Type 0
SlabsAreLaidOut = (class : ℕ) → IsLaidOut class
