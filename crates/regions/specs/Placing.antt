-- Where a region that came is placed.
use Rattle.std.specs.Prelude.{◌≡◌, ℕ, ◌+◌, ◌-◌, ◌/◌, ◌%◌, ◌<◌, ◌≤◌, ◌⊎◌, List}
use Rattle.pool_types.specs.declared.policy.RegionRec.{RegionRec}
use Rattle.pool_types.specs.Geometry.{granule_bytes, slab_granules}
use Rattle.regions.specs.Gaps.{IsLongestGap, IsFit}

-- the address of the first granule
abbrev pub granules_base : RegionRec → ℕ
granules_base one = one.region.base + one.waste

-- how many whole granules lie in the region
abbrev pub whole_granules : RegionRec → ℕ
whole_granules one = (one.region.bytes - one.waste) / granule_bytes

-- 0 where a slab can begin at the first granule's address, and else 1
abbrev pub parity_of : RegionRec → ℕ
parity_of one = granules_base one / granule_bytes % slab_granules

-- all granules and the wall fit, and this is the lowest start of the parity where they do
pub record IsWhole (span : ℕ) (records : List RegionRec) (parity whole first granules : ℕ) : Type 0 where
  pub all : granules ≡ whole
  pub fits : IsFit span records parity (whole + 1) first
  pub lowest : (start : ℕ) → IsFit span records parity (whole + 1) start → first ≤ start

-- they fit nowhere: as many granules as fit with the wall, from the lowest start of the parity in the longest gap
pub record IsCut (span : ℕ) (records : List RegionRec) (parity whole first granules : ℕ) : Type 0 where
  pub nowhere : (start : ℕ) → IsFit span records parity (whole + 1) start → ⊥
  pub start : ℕ
  pub count : ℕ
  pub longest : IsLongestGap span records start count
  pub even_or_odd : first % 2 ≡ parity
  pub from : start ≤ first
  pub near : first ≤ start + 1
  pub ends : first + granules + 1 ≡ start + count

-- so many whole granules are placed, all of them or cut down
abbrev pub IsPlaced : ℕ → List RegionRec → ℕ → ℕ → ℕ → ℕ → Type 0
IsPlaced span records parity whole first granules =
    IsWhole span records parity whole first granules ⊎ IsCut span records parity whole first granules

-- the first granule begins at the region's first multiple of a granule's bytes
pub record IsAligned (one : RegionRec) : Type 0 where
  pub least : one.waste < granule_bytes
  pub multiple : granules_base one % granule_bytes ≡ 0

-- the record of a region that came where these regions were out
pub record IsRecord (span : ℕ) (records : List RegionRec) (one : RegionRec) : Type 0 where
  pub aligned : IsAligned one
  pub placed : IsPlaced span records (parity_of one) (whole_granules one) one.first one.granules
