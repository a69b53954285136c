-- The laws of a pool and its regions.
use Rattle.std.specs.Prelude.{◌≡◌, ℕ, ◌+◌, ◌^◌, ◌<◌, ◌≤◌, Some}
use Rattle.pool_types.specs.declared.policy.RegionRec.{RegionRec}
use Rattle.pool_words.specs.declared.words.Key.{Key}
use Rattle.word_codes.specs.Places.{granule_of}
use Rattle.chain_laws.specs.Named.{ten_key}
use Rattle.guard_laws.specs.Blocks.{Use, Place}
use Rattle.office_laws.specs.Laws.{HasGranule}
use Rattle.use_laws.specs.Apart.{HasUnit}
use Rattle.region_laws.specs.Granules.{State, RegionGood}
use Rattle.region_laws.specs.Steps.{RegionStep, RegionRun}
use Rattle.region_laws.specs.Named.{fresh_state, named_state}

-- each step of each seat keeps what holds of the pool and its regions
abbrev pub StepsKeepRegions : Type 0
StepsKeepRegions =
    (k : Key) (seat : ℕ) (s later : State) → RegionGood k s → RegionStep k seat s later → RegionGood k later

abbrev pub RunsKeepRegions : Type 0
RunsKeepRegions = (k : Key) (s later : State) → RegionGood k s → RegionRun k s later → RegionGood k later

-- a block lies in one region, which the office's words say, whole
pub record LiesInRegion (s : State) (x n : ℕ) : Type 0 where
  pub slot : ℕ
  pub one : RegionRec
  pub live : s.office.live slot ≡ Some one
  pub from : one.first ≤ x
  pub to : x + n ≤ one.first + one.granules

abbrev pub BlocksLieInOneRegion : Type 0
BlocksLieInOneRegion =
    (k : Key) (s : State) (x n : ℕ) (u : Use) → RegionGood k s → s.pool.blocks.place x ≡ Place.Block x n u
    → LiesInRegion s x n

-- each unit of an object lies in a region that the office's words say
pub record IsInRegion (s : State) (granule : ℕ) : Type 0 where
  pub slot : ℕ
  pub one : RegionRec
  pub live : s.office.live slot ≡ Some one
  pub has : HasGranule one granule

abbrev pub ObjectsLieInRegions : Type 0
ObjectsLieInRegions =
    (k : Key) (s : State) (u unit : ℕ) → RegionGood k s → HasUnit s.pool u unit → IsInRegion s (granule_of unit)

-- a new pool
abbrev pub FreshRegionsAreGood : Type 0
FreshRegionsAreGood = (k : Key) → k.span < 2 ^ 32 → RegionGood k (fresh_state k)

-- a region that is one block in a seat's hand
abbrev pub NamedRegionStands : Type 0
NamedRegionStands = RegionGood ten_key named_state
