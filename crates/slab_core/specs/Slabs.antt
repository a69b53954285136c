-- What a slab's record says, and what taking and freeing an object change.
use Rattle.std.specs.Prelude.{◌≡◌, ℕ, ◌+◌, ◌-◌, ◌<◌, ◌≤◌, Option, Some, None}
use Rattle.size_classes.specs.Classes.{class_objects}
use Rattle.slab_core.specs.declared.SlabRec.{SlabRec}

-- the newest of the private objects: one that was handed out, exactly where fewer are held than were handed out
abbrev pub IsNewest : Option ℕ → ℕ → ℕ → Type 0
IsNewest (Some object) count handed = (object < handed) × (count < handed)
IsNewest None count handed = handed ≤ count

-- the record of a slab
pub record IsValid (slab : SlabRec) : Type 0 where
  pub count : slab.count ≤ slab.handed
  pub handed : slab.handed ≤ class_objects slab.class
  pub head : IsNewest slab.head slab.count slab.handed

-- what the private object after the head may be: the newest one once the head is held
abbrev pub IsBelowHead : SlabRec → Option ℕ → Type 0
IsBelowHead slab below = below_of slab.head below slab.count slab.handed
  where
    below_of : Option ℕ → Option ℕ → ℕ → ℕ → Type 0
    below_of (Some object) below count handed = IsNewest below (count + 1) handed
    below_of None below count handed = Unit {0}

-- there is neither a private object nor one in the rest
pub record IsUsedUp (slab : SlabRec) : Type 0 where
  pub private : slab.head ≡ None
  pub rest : class_objects slab.class ≤ slab.handed

-- the slab with one more object held: the head, after which `below` is the newest private one, or else the next of the rest
abbrev pub after_take : SlabRec → Option ℕ → SlabRec
after_take slab below = after slab.head
  where
    after : Option ℕ → SlabRec
    after (Some object) = record slab { head = below; count = slab.count + 1 }
    after None = record slab { handed = slab.handed + 1; count = slab.count + 1 }

-- the object that is taken where there is one
abbrev pub next_object : SlabRec → ℕ
next_object slab = next slab.head
  where
    next : Option ℕ → ℕ
    next (Some object) = object
    next None = slab.handed

-- the slab with one object fewer held: this one, which becomes the head
abbrev pub after_free : SlabRec → ℕ → SlabRec
after_free slab object = record slab { head = Some object; count = slab.count - 1 }
