-- The classes of sizes, and the class of a size.
use Rattle.std.specs.Prelude.{ℕ, ◌/◌, ◌<◌, ◌≤◌, cond, ltb, List, [], ◌∷◌, slice_index, Option, Some, None, position, nat_le}
use Rattle.pool_types.specs.Geometry.{objects_bytes, class_count}

-- the sizes of the classes, in bytes and in rising order
abbrev pub class_sizes : List ℕ
class_sizes = 8 ∷ 16 ∷ 32 ∷ 48 ∷ 64 ∷ 80 ∷ 96 ∷ 112 ∷ 128 ∷ 160 ∷ 192 ∷ 224 ∷ 256 ∷ 320 ∷ 384 ∷ 448 ∷ 512 ∷ 640 ∷ 768 ∷ 896 ∷ 1024 ∷ 1792 ∷ 2688 ∷ 4032 ∷ 5376 ∷ 8128 ∷ []

-- up to this size each doubling has four classes, from 64 on
abbrev pub quarters_end : ℕ
quarters_end = 1024

-- the bytes of an object of the class at this position
unfoldable pub class_size : ℕ → ℕ
class_size class = slice_index class_sizes class

-- how many objects fit into the bytes that a slab has for them
unfoldable pub class_objects : ℕ → ℕ
class_objects class = objects_bytes / class_size class

-- the position of the first class that is not smaller than the size
unfoldable pub class_of : ℕ → Option ℕ
class_of size = position (λ bytes. nat_le size bytes) class_sizes

-- the class is the first that is not smaller than the size
pub record IsFirstClass (size class : ℕ) : Type 0 where
  pub exists : class < class_count
  pub fits : size ≤ class_size class
  pub first : (lower : ℕ) → lower < class → class_size lower < size

-- the class of a number, where there is one
abbrev pub class_at : ℕ → Option ℕ
class_at number = cond (ltb number class_count) (Some number) None
