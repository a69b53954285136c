-- What holds of the office in each state of a run: it is sound, and has a record of each region that is out.
use Rattle.std.specs.Prelude.{◌≡◌, ℕ, ◌<◌, ◌≤◌, false, List, length, slice_index_or, Some}
use Rattle.pool_types.specs.declared.policy.RegionRec.{RegionRec}
use Rattle.pool_types.specs.declared.values.Region.{Region}
use Rattle.regions.specs.Obtaining.{has_region}
use Rattle.regions.specs.Offices.{Desk, IsSound}
use Rattle.office_laws.specs.Regions.{Shadow}

pub record HasRecord (records : List RegionRec) (one : RegionRec) : Type 0 where
  pub place : ℕ
  pub below : place < length records
  pub there : slice_index_or records place one ≡ one

-- a record of each region that is out, none of which is without a granule
pub record HasRecords (g : Shadow) (records : List RegionRec) : Type 0 where
  pub known : (s : ℕ) (one : RegionRec) → g.out s ≡ Some one → HasRecord records one
  pub filled : (s : ℕ) (one : RegionRec) → g.out s ≡ Some one → 1 ≤ one.granules

-- the office's records are of use to it while one more region may come
pub record DeskFits {R : Type 0} (out : R → List Region) (g : Shadow) (desk : Desk R) : Type 0 where
  pub sound : IsSound out desk
  pub counter : g.counter ≤ desk.counter
  pub records : has_region desk ≡ false → HasRecords g desk.records

-- a region that begins where one was given back is out no more, but for one without a granule
abbrev pub IsGone : Shadow → ℕ → Type 0
IsGone g first = (s : ℕ) (one : RegionRec) → g.out s ≡ Some one → one.first ≡ first → one.granules ≡ 0
