-- What an office shows, and what always holds of it.
use Rattle.std.specs.Prelude.{◌≡◌, ◌≢◌, ℕ, ◌+◌, ◌*◌, ◌%◌, ◌<◌, ◌≤◌, ◌⊎◌, Bool, true, false, [], List, length, map, All}
use Rattle.std.specs.List.{AllPairs}
use Rattle.pool_types.specs.declared.policy.Policy.{Policy}
use Rattle.pool_types.specs.declared.policy.Limits.{Limits}
use Rattle.pool_types.specs.declared.policy.RegionRec.{RegionRec}
use Rattle.pool_types.specs.declared.values.Region.{Region}
use Rattle.pool_types.specs.Geometry.{granule_bytes}
use Rattle.pool_types.specs.Limits.{most_regions, region_numbers}
use Rattle.pool_types.specs.Policies.{IsAllowed}
use Rattle.pool_types.specs.Regions.{overlaps}
use Rattle.regions.specs.Placing.{IsAligned, parity_of}

-- the policy and the limits, the records of the regions out by number, the number from which the next one is sought,
-- whether a region ever came, and the callback
pub record Desk (R : Type 0) : Type 0 where
  pub policy : Policy
  pub limits : Limits
  pub records : List RegionRec
  pub counter : ℕ
  pub has_got : Bool
  pub raw : R

-- what an office with these parts shows
abbrev pub desk_of : {R : Type 0} → Policy → Limits → List RegionRec → ℕ → Bool → R → Desk R
desk_of policy limits records counter has_got raw =
    record { policy = policy; limits = limits; records = records; counter = counter; has_got = has_got; raw = raw }

-- the regions of these records
abbrev pub regions_of : List RegionRec → List Region
regions_of records = map (λ one. one.region) records

-- what holds of each record
pub record IsWellPlaced (span counter : ℕ) (one : RegionRec) : Type 0 where
  pub used : one.number < counter
  pub within : one.first + one.granules + 1 ≤ span
  pub even_or_odd : one.first % 2 ≡ parity_of one
  pub aligned : IsAligned one
  pub some : granule_bytes ≤ one.region.bytes
  pub room : one.waste + one.granules * granule_bytes ≤ one.region.bytes

-- what holds of two records: the earlier has the lower number, the slots differ, and the indices and the bytes are apart
pub record AreApart (earlier later : RegionRec) : Type 0 where
  pub numbers : earlier.number < later.number
  pub slots : earlier.number % most_regions ≢ later.number % most_regions
  pub spans : (earlier.first + earlier.granules < later.first) ⊎ (later.first + later.granules < earlier.first)
  pub bytes : overlaps earlier.region later.region ≡ false

-- what always holds of an office (its invariant); `out` gives the regions that its callback has out
pub record IsSound {R : Type 0} (out : R → List Region) (desk : Desk R) : Type 0 where
  pub allowed : IsAllowed desk.policy desk.limits
  pub regions : out desk.raw ≡ regions_of desk.records
  pub most : length desk.records ≤ most_regions
  pub numbers : desk.counter ≤ region_numbers
  pub each : All (IsWellPlaced desk.limits.span desk.counter) desk.records
  pub pairs : AllPairs AreApart desk.records
  pub before : desk.has_got ≡ false → desk.records ≡ []
  pub one : desk.policy.fixed ≡ true → length desk.records ≤ 1
