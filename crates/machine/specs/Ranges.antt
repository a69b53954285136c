-- The ranges of granules, of slabs and of their objects. Bytes are counted from the region's first byte.
use Rattle.std.specs.Prelude.{◌≡◌, ℕ, ◌+◌, ◌*◌, ◌%◌, ◌<◌, ◌≤◌, ◌&&◌, ◌==◌, Bool, nat_lt, List, [], ◌∷◌, map}
use Rattle.std.specs.Prelude.{Contains, Option}
use Rattle.std.specs.List.{list_any}
use Rattle.pool_types.specs.declared.values.Place.{Place}
use Rattle.pool_types.specs.declared.policy.Limits.{Limits}
use Rattle.pool_types.specs.declared.policy.RegionRec.{RegionRec}
use Rattle.pool_types.specs.Geometry.{granule_bytes, slab_granules, slab_bytes}
use Rattle.part_model.specs.declared.holders.Holder.{Holder}
use Rattle.part_model.specs.declared.moves.Range.{Range}
use Rattle.part_model.specs.declared.moves.Part.{Part}
use Rattle.part_model.specs.Holding.{same_region, lies_in, IsApart}
use Rattle.size_classes.specs.Classes.{class_size, class_objects}
use Rattle.size_classes.specs.Layout.{object_offset, head_bytes, rest_end}
use Rattle.machine.specs.States.{State, Slab}

-- the fact holds of each member of the list
abbrev pub Each : {X : Type 0} → (X → Type 0) → List X → Type 0
Each fact [] = Unit {0}
Each fact (x ∷ xs) = fact x × Each fact xs

-- no byte lies in two of the ranges
abbrev pub AreDisjoint : List Range → Type 0
AreDisjoint [] = Unit {0}
AreDisjoint (range ∷ ranges) = Each (IsApart range) ranges × AreDisjoint ranges

-- the bytes from an offset on, in the region of a place
abbrev pub range_at : Place → ℕ → ℕ → Range
range_at place offset bytes = record {
  place =
      record { pool = place.pool; region = place.region; offset = offset };
  bytes = bytes;
}

-- some byte lies in both
abbrev pub overlaps : Range → Range → Bool
overlaps one other =
    same_region one.place other.place
    && nat_lt one.place.offset (other.place.offset + other.bytes)
    && nat_lt other.place.offset (one.place.offset + one.bytes)

-- the bytes from an offset on, in a region of the pool
abbrev pub region_range : ℕ → RegionRec → ℕ → ℕ → Range
region_range pool region offset bytes =
    record { place = record { pool = pool; region = region.number; offset = offset }; bytes = bytes }

-- one part: a range that goes from one holder to another
abbrev pub part_of : Range → Option Holder → Option Holder → Part
part_of range from to = record { range = range; from = from; to = to }

-- several ranges that go from one holder to another
abbrev pub parts_of : List Range → Option Holder → Option Holder → List Part
parts_of ranges from to = map (λ range. part_of range from to) ranges

-- the byte lies in one of the parts
abbrev pub lies_in_parts : Place → List Part → Bool
lies_in_parts byte parts = list_any (λ part. lies_in byte part.range) parts

-- the place is in this region of the pool
abbrev pub IsIn : Limits → Place → RegionRec → Type 0
IsIn limits place region = (place.pool ≡ limits.pool) × (place.region ≡ region.number)

-- the range is so many whole granules of a live region: some of the granules that the region's record counts
pub record IsGranules (limits : Limits) (state : State) (range : Range) (granules : ℕ) : Type 0 where
  pub region : RegionRec
  pub live : Contains state.regions region
  pub there : IsIn limits range.place region
  pub before : ℕ
  pub starts : range.place.offset ≡ region.waste + before * granule_bytes
  pub bytes : range.bytes ≡ granules * granule_bytes
  pub some : 0 < granules
  pub inside : before + granules ≤ region.granules

-- two places are the same
abbrev pub same_place : Place → Place → Bool
same_place one other = same_region one other && (one.offset == other.offset)

-- the bytes of a slab that begins at the place
abbrev pub slab_range : Place → Range
slab_range place = range_at place place.offset slab_bytes

-- no slab of the book has a byte of the range
abbrev pub IsOffBook : State → Range → Type 0
IsOffBook state range = (slab : Slab) → Contains state.book slab → IsApart range (slab_range slab.place)

-- the range is a block: so many whole granules of a live region, of which no slab of the book has a byte
pub record IsBlock (limits : Limits) (state : State) (range : Range) (granules : ℕ) : Type 0 where
  pub whole : IsGranules limits state range granules
  pub open whole use *
  pub free : IsOffBook state range

-- a slab can be here: two granules, of which the first has an address that is a multiple of a slab's bytes, that are
-- in no slab of the book
pub record IsSlabRoom (limits : Limits) (state : State) (place : Place) : Type 0 where
  pub block : IsBlock limits state (slab_range place) slab_granules
  pub open block use *
  pub even : (region.region.base + place.offset) % slab_bytes ≡ 0

-- what lies in a slab before its objects
abbrev pub head_range : Place → ℕ → Range
head_range place class = range_at place place.offset (head_bytes class)

-- where all objects of a slab lie
abbrev pub objects_range : Place → ℕ → Range
objects_range place class = range_at place (place.offset + head_bytes class) (class_objects class * class_size class)

-- an object of a slab: they are counted from the slab's end
abbrev pub object_range : Slab → ℕ → Range
object_range slab object =
    range_at slab.place (slab.place.offset + object_offset slab.class object) (class_size slab.class)

-- what lies in a slab behind an object: the objects of lower count
abbrev pub behind_object : Slab → ℕ → Range
behind_object slab object =
    range_at slab.place (slab.place.offset + rest_end slab.class object) (object * class_size slab.class)

-- the slab is in the book and has an object of this count
pub record IsObjectOf (state : State) (slab : Slab) (object : ℕ) : Type 0 where
  pub booked : Contains state.book slab
  pub exists : object < class_objects slab.class
