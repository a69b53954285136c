-- A slab's private list, and what taking and freeing make of it.
use Rattle.std.specs.Prelude.{◌≡◌, ◌≢◌, ℕ, ◌+◌, ◌<◌, ◌≤◌, ◌↔◌, List, [], ◌∷◌, length, slice_get, Option, None, All, AllPairs, Contains}
use Rattle.size_classes.specs.Classes.{class_objects}
use Rattle.slab_core.specs.declared.SlabRec.{SlabRec}
use Rattle.slab_core.specs.Slabs.{IsValid, IsBelowHead, IsUsedUp, next_object, after_take, after_free}

-- these objects are the slab's private list, newest first: each was handed out and stands there once, the first one is the
-- record's head, and they are as many as were handed out and aren't held
pub record Keeps (slab : SlabRec) (private : List ℕ) : Type 0 where
  pub handed : All (λ object. object < slab.handed) private
  pub once : AllPairs (λ newer older. newer ≢ older) private
  pub head : slab.head ≡ slice_get private 0
  pub count : slab.count + length private ≡ slab.handed

-- a fresh slab has no private object
abbrev pub FreshSlabsKeepNone : Type 0
FreshSlabsKeepNone = (class index : ℕ)
    → Keeps (record { class = class; index = index; handed = 0; head = None; count = 0 }) []

-- a slab in which no more was handed out than its class has, and that has a private list, is valid
abbrev pub KeepersAreValid : Type 0
KeepersAreValid = (slab : SlabRec) (private : List ℕ) → Keeps slab private → slab.handed ≤ class_objects slab.class
    → IsValid slab

-- what taking does to a slab, where `older` follows the newest private object: that object is given, `older` is the private
-- list then, the rest stays, and one object more is held
pub record TakesNewest (slab : SlabRec) (newest : ℕ) (older : List ℕ) : Type 0 where
  pub allowed : IsBelowHead slab (slice_get older 0)
  pub left : ¬ IsUsedUp slab
  pub object : next_object slab ≡ newest
  pub keeps : Keeps (after_take slab (slice_get older 0)) older
  pub rest : (after_take slab (slice_get older 0)).handed ≡ slab.handed
  pub count : (after_take slab (slice_get older 0)).count ≡ slab.count + 1

-- what taking does where there is no private object: the next of the rest is given where the rest has one, no object is
-- private then, the rest has one object fewer, and one more is held
pub record TakesOfRest (slab : SlabRec) (below : Option ℕ) : Type 0 where
  pub allowed : IsBelowHead slab below
  pub left : IsUsedUp slab ↔ (class_objects slab.class ≤ slab.handed)
  pub object : next_object slab ≡ slab.handed
  pub keeps : Keeps (after_take slab below) []
  pub rest : (after_take slab below).handed ≡ slab.handed + 1
  pub count : (after_take slab below).count ≡ slab.count + 1

-- what taking does, by the private list
abbrev pub Takes : SlabRec → List ℕ → Type 0
Takes slab (newest ∷ older) = TakesNewest slab newest older
Takes slab [] = (below : Option ℕ) → TakesOfRest slab below

-- so does taking at each slab
abbrev pub TakesFromPrivateList : Type 0
TakesFromPrivateList = (slab : SlabRec) (private : List ℕ) → Keeps slab private → Takes slab private

-- what freeing an object does to a slab with this private list: the object was held, it stands in front of the list then, the
-- rest stays, and one object fewer is held
pub record Frees (slab : SlabRec) (private : List ℕ) (object : ℕ) : Type 0 where
  pub held : 1 ≤ slab.count
  pub keeps : Keeps (after_free slab object) (object ∷ private)
  pub rest : (after_free slab object).handed ≡ slab.handed
  pub count : (after_free slab object).count + 1 ≡ slab.count

-- so does freeing at each slab an object that was handed out and isn't private
abbrev pub FreesToPrivateList : Type 0
FreesToPrivateList = (slab : SlabRec) (private : List ℕ) (object : ℕ) → Keeps slab private → object < slab.handed →
    ¬ Contains private object → Frees slab private object
