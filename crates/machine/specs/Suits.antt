-- Which objects suit a request.
use Rattle.std.specs.Prelude.{◌≡◌, ℕ, ◌+◌, ◌*◌, ◌%◌, ◌≤◌, ◌==◌, nat_le, Bool, true, false, if◌then◌else◌, Contains}
use Rattle.std.specs.Prelude.{Option, None}
use Rattle.pool_types.specs.declared.values.Place.{Place}
use Rattle.pool_types.specs.declared.values.Request.{Request}
use Rattle.pool_types.specs.declared.values.Request.TheVariants.{Malloc, Aligned, Realloc, AlignedRealloc, Free}
use Rattle.pool_types.specs.declared.values.Request.TheVariants.{Msize, Identify, Exit}
use Rattle.pool_types.specs.declared.policy.Limits.{Limits}
use Rattle.pool_types.specs.declared.policy.RegionRec.{RegionRec}
use Rattle.pool_types.specs.Geometry.{unit_bytes, largest_small, line_bytes}
use Rattle.machine.specs.States.{State}
use Rattle.machine.specs.Ranges.{IsIn}

-- the bytes that a request asks for; 0 where it asks for none
abbrev pub size_of : Request → ℕ
size_of (Malloc size) = size
size_of (Aligned size alignment) = size
size_of (Realloc place size) = size
size_of (AlignedRealloc place size alignment) = size
size_of (Free place) = 0
size_of (Msize place) = 0
size_of (Identify place) = 0
size_of Exit = 0

-- the request wants a new object, or may want one
abbrev pub wants_object : Request → Bool
wants_object (Malloc size) = true
wants_object (Aligned size alignment) = true
wants_object (Realloc place size) = true
wants_object (AlignedRealloc place size alignment) = true
wants_object (Free place) = false
wants_object (Msize place) = false
wants_object (Identify place) = false
wants_object Exit = false

-- the place whose object a request frees, or may free
abbrev pub place_to_free : Request → Option Place
place_to_free (Malloc size) = None
place_to_free (Aligned size alignment) = None
place_to_free (Realloc place size) = place
place_to_free (AlignedRealloc place size alignment) = place
place_to_free (Free place) = place
place_to_free (Msize place) = None
place_to_free (Identify place) = None
place_to_free Exit = None

-- the least usable bytes that suit a size: a request for no bytes gets a unit
abbrev pub least_usable : ℕ → ℕ
least_usable size = if size == 0 then unit_bytes else size

-- the alignment that a request without one may count on
abbrev pub plain_alignment : ℕ → ℕ
plain_alignment size =
    if nat_le size unit_bytes then unit_bytes
    else (if nat_le size largest_small then 2 * unit_bytes else line_bytes)

-- the alignment that suits a request
abbrev pub alignment_of : Request → ℕ
alignment_of (Malloc size) = plain_alignment size
alignment_of (Aligned size alignment) = alignment
alignment_of (Realloc place size) = plain_alignment size
alignment_of (AlignedRealloc place size alignment) = alignment
alignment_of (Free place) = 1
alignment_of (Msize place) = 1
alignment_of (Identify place) = 1
alignment_of Exit = 1

-- the object at the place suits the request (it meets the specification): it is large enough, lies in one live region,
-- and its address is aligned
pub record Suits (limits : Limits) (state : State) (request : Request) (place : Place) (usable : ℕ) : Type 0 where
  pub region : RegionRec
  pub live : Contains state.regions region
  pub there : IsIn limits place region
  pub enough : least_usable (size_of request) ≤ usable
  pub inside : place.offset + usable ≤ region.region.bytes
  pub aligned : (region.region.base + place.offset) % alignment_of request ≡ 0
