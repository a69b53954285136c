-- What a request for memory is served as.
use Rattle.std.specs.Prelude.{ℕ, ◌+◌, max, Option, Some, None, ◌&&◌, ◌||◌, ◌==◌, not, nat_le, if◌then◌else◌}
use Rattle.std.specs.Int.{is_power_of_two}
use Rattle.pool_types.specs.Geometry.{granules_of, line_bytes}
use Rattle.pool_types.specs.Policies.{align_up}
use Rattle.size_classes.specs.declared.Served.{Served}
use Rattle.size_classes.specs.declared.Served.TheVariants.{Small, Large, Bad}
use Rattle.size_classes.specs.Classes.{quarters_end, class_of}

-- an object of the class, where there is one
abbrev pub small_or : Option ℕ → Served → Served
small_or (Some class) otherwise = Small class
small_or None otherwise = otherwise

-- a block that has room for the object at a multiple of the alignment, with a head before it
abbrev pub large_at : ℕ → ℕ → Served
large_at size alignment = Large (granules_of (size + alignment)) alignment

-- a plain request: the class of the size, and from 8129 bytes on a block
unfoldable pub served_plain : ℕ → Served
served_plain size = small_or (class_of size) (large_at size line_bytes)

-- the class of an aligned request: that of the size rounded up, where each doubling has four classes; else, up to the alignment of a
-- line, that of the size
unfoldable pub aligned_class : ℕ → ℕ → Option ℕ
aligned_class size alignment =
    if nat_le size quarters_end && nat_le alignment quarters_end then class_of (align_up size alignment)
    else if nat_le alignment line_bytes then class_of size
    else None

-- an aligned request: bad for no bytes or an alignment that is no power of two, else its class where there is one, else a block
unfoldable pub served : ℕ → ℕ → Served
served size alignment =
    if size == 0 || not (is_power_of_two alignment) then Bad
    else small_or (aligned_class size alignment) (large_at size (max line_bytes alignment))

-- the fact holds of the class, where an object of a class is served
abbrev pub IfSmall : Served → (ℕ → Type 0) → Type 0
IfSmall (Small class) fact = fact class
IfSmall (Large granules alignment) fact = Unit {0}
IfSmall Bad fact = Unit {0}
