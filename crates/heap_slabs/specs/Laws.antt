-- What a heap's record of a slab says is what `slab_core` says of the slab, wherever that record is valid.
use Rattle.std.specs.Prelude.{◌≡◌, ℕ, ◌+◌, ◌*◌, ◌/◌, ◌<◌, ◌^◌, Option, Some, None}
use Rattle.pool_types.specs.Geometry.{unit_bytes, granule_bytes}
use Rattle.size_classes.specs.Layout.{object_offset}
use Rattle.slab_core.specs.declared.SlabRec.{SlabRec}
use Rattle.slab_core.specs.Slabs.{IsValid, IsUsedUp, next_object, after_take as slab_after_take}
use Rattle.slab_core.specs.Slabs.{after_free as slab_after_free}
use Rattle.slab_core.specs.Headers.{to_header as slab_to_header}
use Rattle.heap_slabs.specs.declared.records.HeapSlab.{HeapSlab}
use Rattle.heap_slabs.specs.Records.{unit_of, next_unit, after_take, after_free, to_header, of_header}

-- the unit of an object, where there is one
abbrev pub unit_if : ℕ → ℕ → Option ℕ → Option ℕ
unit_if slab class None = None
unit_if slab class (Some object) = Some (unit_of slab class object)

-- the record of a slab as its heap has it
abbrev pub heap_slab : SlabRec → HeapSlab
heap_slab s = record {
  slab = s.index;
  class = s.class;
  handed = s.handed;
  count = s.count;
  head = unit_if s.index s.class s.head;
}

-- a valid record of a slab of a pool
pub record IsSlab (s : SlabRec) : Type 0 where
  pub valid : IsValid s
  pub few : s.index < 2 ^ 32

-- each object begins where it lies in the slab
abbrev pub UnitsAreOffsets : Type 0
UnitsAreOffsets =
    (slab class object : ℕ) → slab < 2 ^ 32 → unit_of slab class object ≡ slab * (granule_bytes / unit_bytes) +
    object_offset class object / unit_bytes

-- where an object is left, both take it, and leave the same
pub record TakesOne (s : SlabRec) (below : Option ℕ) : Type 0 where
  pub object : next_unit (heap_slab s) ≡ Some (unit_of s.index s.class (next_object s))
  pub left : after_take (heap_slab s) (unit_if s.index s.class below) ≡ heap_slab (slab_after_take s below)

-- where none is, nothing changes
pub record TakesNone (s : SlabRec) (below : Option ℕ) : Type 0 where
  pub object : next_unit (heap_slab s) ≡ None
  pub left : after_take (heap_slab s) (unit_if s.index s.class below) ≡ heap_slab s

pub record TakesAsSlab (s : SlabRec) (below : Option ℕ) : Type 0 where
  pub some : ¬ IsUsedUp s → TakesOne s below
  pub none : IsUsedUp s → TakesNone s below

abbrev pub TakesAsSlabs : Type 0
TakesAsSlabs = (s : SlabRec) (below : Option ℕ) → IsSlab s → TakesAsSlab s below

abbrev pub FreesAsSlabs : Type 0
FreesAsSlabs =
    (s : SlabRec) (object : ℕ) → IsSlab s → after_free (heap_slab s) (unit_of s.index s.class object) ≡ heap_slab
    (slab_after_free s object)

-- both have one header, which gives the record back
pub record HasItsHeader (s : SlabRec) : Type 0 where
  pub header : to_header (heap_slab s) ≡ slab_to_header s
  pub back : of_header s.index s.class (slab_to_header s) ≡ heap_slab s

abbrev pub HeadersAreSlabs : Type 0
HeadersAreSlabs = (s : SlabRec) → IsSlab s → HasItsHeader s
