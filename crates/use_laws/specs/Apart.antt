-- Where an object lies: from the unit at which it begins to the end of its class's size, or of its block.
use Rattle.std.specs.Prelude.{◌≡◌, ◌⊎◌, ℕ, ◌+◌, ◌*◌, ◌/◌, ◌<◌, ◌≤◌}
use Rattle.pool_types.specs.Geometry.{unit_bytes}
use Rattle.size_classes.specs.Classes.{class_size}
use Rattle.word_codes.specs.Places.{granule_units}
use Rattle.guard_laws.specs.Blocks.{Use, Place}
use Rattle.slab_laws.specs.Books.{Book}
use Rattle.slab_laws.specs.Heaps.{slab_of}
use Rattle.object_laws.specs.Objects.{Held}
use Rattle.use_laws.specs.Uses.{Purpose}
use Rattle.use_laws.specs.Pools.{Pool}

-- the unit behind an object of the slab that the unit is in
abbrev pub small_end : Book → ℕ → ℕ
small_end b u = u + class_size (b.classes (slab_of u)) / unit_bytes

-- the unit behind the object that begins at a unit; where none begins that unit itself
abbrev pub end_of : Book → ℕ → Held → ℕ
end_of b u Held.NotOut = u
end_of b u Held.Private = small_end b u
end_of b u Held.Listed = small_end b u
end_of b u (Held.Object grant) = small_end b u
end_of b u (Held.InHand seat) = small_end b u
end_of b u (Held.Ready seat first granules) = granule_units * (first + granules)
end_of b u (Held.Large grant first granules) = granule_units * (first + granules)

-- the unit is one of the object that begins there
pub record HasUnit (p : Pool) (u unit : ℕ) : Type 0 where
  pub from : u ≤ unit
  pub below : unit < end_of p.locals.book u (p.objects.held u)

-- the granule lies in a block at rest, which is a slab, or for the object that begins at this unit
pub record RestsAt (p : Pool) (u granule : ℕ) : Type 0 where
  pub first : ℕ
  pub granules : ℕ
  pub block : p.blocks.place granule ≡ Place.Block first granules Use.Elsewhere
  pub purpose : (p.purpose first ≡ Purpose.Slab) ⊎ (p.purpose first ≡ Purpose.Object u)
