-- The record of a slab that a heap keeps, what taking, freeing and joining make of it, and its header word.
use Rattle.std.specs.Prelude.{ℕ, zero, suc, ◌+◌, ◌-◌, ◌*◌, ◌/◌, ◌%◌, Bool, cond, ◌||◌, eqb, ltb, Option}
use Rattle.std.specs.Prelude.{Some, None, is_some}
use Rattle.size_classes.specs.Classes.{class_size, class_objects}
use Rattle.pool_types.specs.Sums.{capped}
use Rattle.pool_types.specs.Geometry.{unit_bytes, granule_bytes, slab_bytes}
use Rattle.size_classes.specs.Layout.{object_offset}
use Rattle.slab_core.specs.Headers.{count_unit, head_unit}
use Rattle.heap_slabs.specs.declared.records.HeapSlab.{HeapSlab}

-- the unit at which a slab begins
abbrev pub slab_start : ℕ → ℕ
slab_start slab = capped (slab * (granule_bytes / unit_bytes))

-- the unit at which an object of a slab begins
unfoldable pub unit_of : ℕ → ℕ → ℕ → ℕ
unit_of slab class object = capped (slab_start slab + object_offset class object / unit_bytes)

-- how many objects begin at a unit or behind it: the number of the object that begins there, and 1
unfoldable pub objects_from : ℕ → ℕ → ℕ → ℕ
objects_from slab class unit = (slab_bytes / unit_bytes - (unit - slab_start slab)) / (class_size class / unit_bytes)

-- a slab of which no object was handed out
abbrev pub begun : ℕ → ℕ → HeapSlab
begun slab class = record { slab = slab; class = class; handed = 0; count = 0; head = None }

-- the next object of the rest
abbrev pub rest_unit : HeapSlab → Option ℕ
rest_unit s = cond (ltb s.handed (class_objects s.class)) (Some (unit_of s.slab s.class s.handed)) None

abbrev pub next_by : HeapSlab → Option ℕ → Option ℕ
next_by s (Some unit) = Some unit
next_by s None = rest_unit s

-- the object that is taken next: the newest private one, else the next of the rest
abbrev pub next_unit : HeapSlab → Option ℕ
next_unit s = next_by s s.head

abbrev pub has_object : HeapSlab → Bool
has_object s = is_some s.head || ltb s.handed (class_objects s.class)

abbrev pub after_take_by : HeapSlab → ℕ → Option ℕ → Option ℕ → HeapSlab
after_take_by s count below (Some unit) = record s { head = below; count = count }
after_take_by s count below None =
    cond (ltb s.handed (class_objects s.class)) (record s { handed = capped (s.handed + 1); count = count }) s

-- the slab once its next object was taken; `below` is the private object behind the newest one
abbrev pub after_take : HeapSlab → Option ℕ → HeapSlab
after_take s below = after_take_by s (capped (s.count + 1)) below s.head

-- the slab once an object came back, which is the newest private one
abbrev pub after_free : HeapSlab → ℕ → HeapSlab
after_free s unit = record s { head = Some unit; count = s.count - 1 }

-- the slab once so many objects that others gave back were joined to its private list, of which this is the newest
abbrev pub after_join : HeapSlab → ℕ → ℕ → HeapSlab
after_join s first joined = record s { head = Some first; count = s.count - joined }

abbrev pub is_unused : HeapSlab → Bool
is_unused s = eqb s.count 0

-- the head in a header: the object's number and 1, and 0 where there is none
abbrev pub head_field : ℕ → ℕ → Option ℕ → ℕ
head_field slab class (Some unit) = objects_from slab class unit
head_field slab class None = 0

-- the header word: 11 bits each for how many objects were handed out, how many are held, and the head
unfoldable pub to_header : HeapSlab → ℕ
to_header s =
    s.handed % count_unit + count_unit * (s.count % count_unit) + head_unit * (head_field s.slab s.class s.head %
    count_unit)

abbrev pub head_in : ℕ → ℕ → ℕ → Option ℕ
head_in slab class zero = None
head_in slab class (suc object) = Some (unit_of slab class object)

-- the record of a slab of a class by its header word
unfoldable pub of_header : ℕ → ℕ → ℕ → HeapSlab
of_header slab class word = record {
  slab = slab;
  class = class;
  handed = word % count_unit;
  count = word / count_unit % count_unit;
  head = head_in slab class (word / head_unit % count_unit);
}
