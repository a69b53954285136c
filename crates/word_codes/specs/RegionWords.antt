-- The region of a slot, and where its units lie in it.
use Rattle.std.specs.Prelude.{ℕ, ◌+◌, ◌-◌, ◌*◌, ◌/◌, ◌%◌, ◌^◌, ◌<◌, max, Bool, cond, not, ◌&&◌, ◌||◌, eqb, ltb, leb, Option, Some, None}
use Rattle.pool_types.specs.Geometry.{unit_bytes, granule_bytes, line_bytes}
use Rattle.pool_types.specs.Sums.{capped}
use Rattle.word_codes.specs.Places.{granule_units}
use Rattle.word_codes.specs.declared.region_words.RegionWord.{RegionWord}

unfoldable pub region_of : ℕ → RegionWord
region_of w = record {
  live = eqb (w % 2) 1;
  number = w / 2 % 2 ^ 22;
  first = w / 2 ^ 23 % 2 ^ 14;
  granules = w / 2 ^ 37 % 2 ^ 14;
  waste = w / 2 ^ 51;
}

unfoldable pub region_word : RegionWord → ℕ
region_word r =
    cond r.live 1 0 + 2 * (r.number % 2 ^ 22) + 2 ^ 23 * (r.first % 2 ^ 14) + 2 ^ 37 * (r.granules % 2 ^ 14)
    + 2 ^ 51 * (r.waste % 2 ^ 13)

pub record FitsRegion (r : RegionWord) : Type 0 where
  pub number : r.number < 2 ^ 22
  pub first : r.first < 2 ^ 14
  pub granules : r.granules < 2 ^ 14
  pub waste : r.waste < 2 ^ 13

-- whether the region of this number is there
abbrev pub has_number : RegionWord → ℕ → Bool
has_number r number = r.live && eqb r.number number

-- whether a region with this granule is there
abbrev pub has_granule : RegionWord → ℕ → Bool
has_granule r granule = r.live && (leb r.first granule && ltb (granule - r.first) r.granules)

-- whether no unit of the region's granules begins so many bytes behind the first granule's begin
abbrev pub has_no_unit : RegionWord → ℕ → Bool
has_no_unit r within = not (eqb (within % unit_bytes) 0) || leb r.granules (within / granule_bytes)

-- the unit that begins at this offset of the region, if one of its granules has one there
unfoldable pub unit_in : RegionWord → ℕ → Option ℕ
unit_in r offset =
    cond (ltb offset r.waste || has_no_unit r (offset - r.waste)) None
    (Some (capped ((offset - r.waste) / unit_bytes + capped (r.first * granule_units))))

-- the offset at which a unit of the region begins
unfoldable pub offset_of : RegionWord → ℕ → ℕ
offset_of r unit = capped (capped ((unit - capped (r.first * granule_units)) * unit_bytes) + r.waste)

-- the address at which a unit begins, by the region's base
abbrev pub address_of : RegionWord → ℕ → ℕ → ℕ
address_of r base unit = capped (base + offset_of r unit)

-- the last multiple that is not above a number
abbrev pub multiple_below : ℕ → ℕ → ℕ
multiple_below n multiple = n / multiple * multiple

-- the first address that is a line or more behind this one, and a multiple of the alignment
abbrev pub large_begin : ℕ → ℕ → ℕ
large_begin start multiple = multiple_below (capped (capped (start + line_bytes) + (multiple - 1))) multiple

-- the unit in which a large object begins, by the first unit of its block and that unit's address
abbrev pub large_unit_at : ℕ → ℕ → ℕ → ℕ
large_unit_at unit start multiple = capped (unit + (large_begin start multiple - start) / unit_bytes)

-- the first unit of a granule
abbrev pub first_unit : ℕ → ℕ
first_unit granule = capped (granule * granule_units)

-- the unit in which the large object of a block begins, by the region's base and the block's first granule
unfoldable pub large_unit : RegionWord → ℕ → ℕ → ℕ → ℕ
large_unit r base block alignment =
    large_unit_at (first_unit block) (address_of r base (first_unit block)) (max alignment 1)
