-- Which granule a unit is in, which slab a granule may be in, and which slot a region has.
use Rattle.std.specs.Prelude.{ℕ, ◌*◌, ◌/◌, ◌%◌}
use Rattle.pool_types.specs.Geometry.{unit_bytes, granule_bytes, slab_granules}
use Rattle.pool_types.specs.Limits.{most_regions}

-- how many units a granule has
abbrev pub granule_units : ℕ
granule_units = granule_bytes / unit_bytes

abbrev pub granule_of : ℕ → ℕ
granule_of unit = unit / granule_units

-- the first granule of the slab that a granule is in, if it is in one
abbrev pub slab_granule : ℕ → ℕ
slab_granule granule = granule / slab_granules * slab_granules

abbrev pub slot_of : ℕ → ℕ
slot_of number = number % most_regions
