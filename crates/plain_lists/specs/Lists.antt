-- What a fixed pool has for its one thread, as plain lists.
use Rattle.std.specs.Prelude.{ℕ, ◌+◌, Bool, ◌&&◌, ◌||◌, ◌==◌, not, nat_le, nat_lt, if◌then◌else◌, List, [], ◌∷◌, ◌++◌}
use Rattle.std.specs.Prelude.{length, map, filter, slice_set, Some, None}
use Rattle.std.specs.declared.option.Option.{Option}
use Rattle.pool_types.specs.declared.values.Region.{Region}
use Rattle.size_classes.specs.Classes.{class_objects}

-- A slab that the thread keeps: the index of its first granule, its class, and what became of the objects that were
-- handed out, in their order: each has the number of the grant under which it is held, or none where it came back.
-- Those that came back are private; they stand in a list of their own, the newest first.
pub record OwnSlab : Type 0 where
  pub index : ℕ
  pub class : ℕ
  pub objects : List (Option ℕ)
  pub private : List ℕ

-- a free block: the index of its first granule, and how many granules it has
pub record Block : Type 0 where
  pub first : ℕ
  pub granules : ℕ

-- What the pool has: its region, its slabs, the newest first, the slabs in its slab cache, the oldest first, the
-- blocks in bins, the newest first, and how many objects were granted. The list of a class is that of its slabs, in
-- this order, and the list of a bin that of its blocks.
pub record Lists : Type 0 where
  pub region : Option Region
  pub slabs : List OwnSlab
  pub stored : List ℕ
  pub blocks : List Block
  pub granted : ℕ

-- a pool of which nothing was asked
abbrev pub no_lists : Lists
no_lists = record { region = None; slabs = []; stored = []; blocks = []; granted = 0 }

-- the region that a callback without a script gives first for 1048576 bytes
abbrev pub first_region : Region
first_region = record { base = 1048576; bytes = 1048576 }

-- all its granules, as a block
abbrev pub whole_block : Block
whole_block = record { first = 0; granules = 128 }

-- the granule is one of so many from the first on
abbrev pub lies_on : ℕ → ℕ → ℕ → Bool
lies_on first granules granule = nat_le first granule && nat_lt granule (first + granules)

-- a slab of which no object was handed out
abbrev pub begun : ℕ → ℕ → OwnSlab
begun index class = record { index = index; class = class; objects = []; private = [] }

-- the slab is of the class, and has an object to give: a private one, or one that was not handed out
abbrev pub has_free : ℕ → OwnSlab → Bool
has_free class slab =
    (slab.class == class) && (nat_lt 0 (length slab.private) || nat_lt (length slab.objects) (class_objects class))

-- the object that the slab gives next: the newest private one, or else the next that was not handed out
abbrev pub next_object : OwnSlab → ℕ
next_object slab = next slab.private
  where
    next : List ℕ → ℕ
    next (object ∷ private) = object
    next [] = length slab.objects

-- the slab after it gave its next object, under this number
abbrev pub given : OwnSlab → ℕ → OwnSlab
given slab number = gives slab.private
  where
    gives : List ℕ → OwnSlab
    gives (object ∷ private) = record slab { objects = slice_set slab.objects object (Some number); private = private }
    gives [] = record slab { objects = slab.objects ++ Some number ∷ [] }

-- the slab after an object came back
abbrev pub taken_back : OwnSlab → ℕ → OwnSlab
taken_back slab object = record slab { objects = slice_set slab.objects object None; private = object ∷ slab.private }

-- no object of the slab is held: as many are private as were handed out
abbrev pub is_unused : OwnSlab → Bool
is_unused slab = nat_le (length slab.objects) (length slab.private)

-- the slabs with this one in place of that of the same index
abbrev pub changed : OwnSlab → List OwnSlab → List OwnSlab
changed slab slabs = map (λ other. if other.index == slab.index then slab else other) slabs

-- the slabs without that of the index
abbrev pub without : ℕ → List OwnSlab → List OwnSlab
without index slabs = filter (λ slab. not (slab.index == index)) slabs
