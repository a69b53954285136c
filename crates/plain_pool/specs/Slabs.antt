-- What the arrays say of the slabs.
use Rattle.std.specs.Prelude.{◌≡◌, ℕ, ◌+◌, ◌-◌, ◌*◌, ◌/◌, ◌%◌, ◌<◌, ◌≤◌, ◌==◌, List, [], ◌∷◌, length, map, filter, find, slice_get, slice_index_or, Contains, Some, None}
use Rattle.std.specs.declared.option.Option.{Option}
use Rattle.size_classes.specs.Classes.{class_objects}
use Rattle.slab_core.specs.declared.SlabRec.{SlabRec}
use Rattle.size_classes.specs.Layout.{object_offset}
use Rattle.index_lists.specs.Lists.{Lists, members}
use Rattle.plain_lists.specs.Lists.{OwnSlab}
use Rattle.plain_lists.specs.Whole.{Spot, spot_in}
use Rattle.plain_lists.specs.Good.{IsHeld, times, nones}
use Rattle.plain_pool.specs.declared.marks.Mark.{Mark}
use Rattle.plain_pool.specs.declared.marks.Mark.TheVariants.{Blank}
use Rattle.plain_pool.specs.declared.slabs.Slabs.{Slabs}
use Rattle.plain_pool.specs.declared.slabs.Held.{Held}
use Rattle.plain_pool.specs.Marks.{number_in, link_in}

-- the record of a slab
abbrev pub record_of : OwnSlab → SlabRec
record_of slab = record {
  class = slab.class;
  index = slab.index;
  handed = length slab.objects;
  head = slice_get slab.private 0;
  count = length slab.objects - length slab.private;
}

abbrev pub record_in : Option OwnSlab → Option SlabRec
record_in (Some slab) = Some (record_of slab)
record_in None = None

-- the slab in a room: two granules of the region
abbrev pub slab_in : ℕ → List OwnSlab → Option OwnSlab
slab_in room slabs = find (λ slab. slab.index == 2 * room) slabs

-- the room of a slab
abbrev pub room_of : Option OwnSlab → Option ℕ
room_of (Some slab) = Some (slab.index / 2)
room_of None = None

-- the rooms of a class's slabs
abbrev pub rooms_of : ℕ → List OwnSlab → List ℕ
rooms_of class slabs = map (λ slab. slab.index / 2) (filter (λ slab. slab.class == class) slabs)

-- the unit at which an object begins
abbrev pub unit_at : ℕ → ℕ → ℕ → ℕ
unit_at index class object = 1024 * index + object_offset class object / 8

-- the mark of a unit
abbrev pub mark_at : List Mark → ℕ → Mark
mark_at marks unit = slice_index_or marks unit Blank

-- the number under which the object at a spot is held
abbrev pub number_of : Option Spot → Option ℕ
number_of (Some spot) = Some spot.number
number_of None = None

-- the marks name the numbers of the objects that are held, each at the unit where the object begins, and no other
abbrev pub AreNumbers : List Mark → List OwnSlab → Type 0
AreNumbers marks slabs = (unit : ℕ) → unit < 131072
    → number_in (mark_at marks unit) ≡ number_of (spot_in (8 * unit) (slab_in (unit / 2048) slabs))

-- the marks of these private objects name each the next one
abbrev pub AreLinks : List Mark → ℕ → ℕ → List ℕ → Type 0
AreLinks marks index class [] = Unit {0}
AreLinks marks index class (object ∷ private) =
    (link_in (mark_at marks (unit_at index class object)) ≡ slice_get private 0) × AreLinks marks index class private

-- the arrays are those of these slabs
pub record SlabsFit (rooms : List (Option SlabRec)) (classes : Lists) (marks : List Mark) (slabs : List OwnSlab) : Type 0 where
  pub rooms_long : length rooms ≡ 64
  pub classes_long : length classes.lists ≡ 26
  pub places : classes.indices ≡ 64
  pub marks_long : length marks ≡ 131072
  pub listed : (class : ℕ) → class < 26 → members classes class ≡ rooms_of class slabs
  pub recorded : (room : ℕ) → slice_index_or rooms room None ≡ record_in (slab_in room slabs)
  pub numbers : AreNumbers marks slabs
  pub links : (slab : OwnSlab) → Contains slabs slab → AreLinks marks slab.index slab.class slab.private

-- the arrays hold these slabs
abbrev pub AreSlabs : Slabs → List OwnSlab → Type 0
AreSlabs arrays slabs = SlabsFit arrays.rooms.items arrays.classes arrays.marks.items slabs

-- each slab has a class and a room of its own
pub record ArePlaced (slabs : List OwnSlab) : Type 0 where
  pub classes : (slab : OwnSlab) → Contains slabs slab → slab.class < 26
  pub even : (slab : OwnSlab) → Contains slabs slab → slab.index % 2 ≡ 0
  pub inside : (slab : OwnSlab) → Contains slabs slab → slab.index + 2 ≤ 128
  pub one : (slab other : OwnSlab) → Contains slabs slab → Contains slabs other → slab.index ≡ other.index
      → slab ≡ other

-- the private objects of a slab are those that came back, each once
pub record IsKept (slab : OwnSlab) : Type 0 where
  pub few : length slab.objects ≤ class_objects slab.class
  pub counted : length slab.private ≡ nones slab.objects
  pub came_back : (object : ℕ) → 0 < times object slab.private → slice_get slab.objects object ≡ Some None
  pub once : (object : ℕ) → times object slab.private ≤ 1

-- so are those of these slabs
pub record AreKept (slabs : List OwnSlab) : Type 0 where
  pub placed : ArePlaced slabs
  pub each : (slab : OwnSlab) → Contains slabs slab → IsKept slab

-- the slab in the room is this one
pub record IsIn (room : ℕ) (slab : OwnSlab) (slabs : List OwnSlab) : Type 0 where
  pub member : Contains slabs slab
  pub at_room : slab.index ≡ 2 * room

-- no object of the slab is held
abbrev pub IsUnheld : OwnSlab → Type 0
IsUnheld slab = (object number : ℕ) → IsHeld slab object number → ⊥

-- where the object at a spot is
abbrev pub held_of : Option Spot → Option Held
held_of (Some spot) = Some (record { room = spot.slab.index / 2; class = spot.slab.class; object = spot.object })
held_of None = None
