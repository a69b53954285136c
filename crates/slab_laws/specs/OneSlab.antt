-- One slab, by its private objects and how many objects of its rest were handed out.
use Rattle.std.specs.Prelude.{◌≡◌, ℕ, ◌+◌, ◌^◌, ◌<◌, ◌≤◌, Option, Some, None, List, [], ◌∷◌, ◌++◌, length}
use Rattle.size_classes.specs.Classes.{class_objects}
use Rattle.index_lists.specs.Lists.{first_of}
use Rattle.heap_slabs.specs.declared.records.HeapSlab.{HeapSlab}
use Rattle.heap_slabs.specs.Records.{unit_of, next_unit, after_take, after_free, after_join, to_header, of_header}
use Rattle.chain_laws.specs.Chains.{tally, IsOnce}

-- an object that was handed out of the slab's rest begins at this unit
abbrev pub IsHanded : HeapSlab → ℕ → Type 0
IsHanded r u = (i : ℕ) × (i < r.handed) × (u ≡ unit_of r.slab r.class i)

-- the newest private object of a record, which says whether one is private
abbrev pub HeadFits : HeapSlab → Option ℕ → Type 0
HeadFits r None = r.handed ≤ r.count
HeadFits r (Some u) = IsHanded r u × (r.count < r.handed)

-- a record that a slab can have
pub record IsRecord (r : HeapSlab) : Type 0 where
  pub few : r.slab < 2 ^ 32
  pub handed : r.handed ≤ class_objects r.class
  pub count : r.count ≤ r.handed
  pub head : HeadFits r r.head

-- the record of a slab with these private objects, the newest first
pub record IsSlabOf (r : HeapSlab) (privates : List ℕ) : Type 0 where
  pub few : r.slab < 2 ^ 32
  pub handed : r.handed ≤ class_objects r.class
  pub among : (u : ℕ) → 0 < tally u privates → IsHanded r u
  pub once : IsOnce privates
  pub head : r.head ≡ first_of privates
  pub count : r.count + length privates ≡ r.handed

-- an object is taken: the newest private one, else the next of the rest, else none
pub record TakesPrivate (r : HeapSlab) (u : ℕ) (privates : List ℕ) : Type 0 where
  pub object : next_unit r ≡ Some u
  pub left : IsSlabOf (after_take r (first_of privates)) privates
  pub rest : (after_take r (first_of privates)).handed ≡ r.handed

pub record TakesRest (r : HeapSlab) : Type 0 where
  pub object : next_unit r ≡ Some (unit_of r.slab r.class r.handed)
  pub left : IsSlabOf (after_take r None) []
  pub rest : (after_take r None).handed ≡ r.handed + 1

pub record TakesNone (r : HeapSlab) : Type 0 where
  pub object : next_unit r ≡ None
  pub left : after_take r None ≡ r

abbrev pub Takes : HeapSlab → List ℕ → Type 0
Takes r (u ∷ privates) = TakesPrivate r u privates
Takes r [] = (r.handed < class_objects r.class → TakesRest r) × (class_objects r.class ≤ r.handed → TakesNone r)

-- what may be done with a slab, and what is left
pub record OneSlab (r : HeapSlab) (privates : List ℕ) : Type 0 where
  pub takes : Takes r privates
  -- an object that was handed out and is not private comes back
  pub frees : (u : ℕ) → IsHanded r u → tally u privates ≡ 0
      → (0 < r.count) × IsSlabOf (after_free r u) (u ∷ privates)
  -- objects that were handed out and are not private are joined, all of them different
  pub joins : (u : ℕ) (us : List ℕ) → IsOnce (u ∷ us) → ((v : ℕ) → 0 < tally v (u ∷ us) → IsHanded r v)
      → ((v : ℕ) → 0 < tally v (u ∷ us) → tally v privates ≡ 0)
      → (length (u ∷ us) ≤ r.count) × IsSlabOf (after_join r u (length (u ∷ us))) ((u ∷ us) ++ privates)
  -- where none is held, each that was handed out is private
  pub unused : r.count ≡ 0 → (u : ℕ) → IsHanded r u → 0 < tally u privates
  -- the header tells the record
  pub header : of_header r.slab r.class (to_header r) ≡ r
