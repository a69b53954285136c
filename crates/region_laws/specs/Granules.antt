-- A pool with its regions: blocks lie just in the regions that have become blocks, each of which the words say.
use Rattle.std.specs.Prelude.{◌≡◌, ℕ, ◌+◌, ◌≤◌, Option, Some, None, ⊤}
use Rattle.pool_types.specs.declared.policy.RegionRec.{RegionRec}
use Rattle.pool_words.specs.declared.words.Key.{Key}
use Rattle.word_codes.specs.Places.{slot_of}
use Rattle.region_steps.specs.declared.office.OfficeAt.{OfficeAt}
use Rattle.guard_laws.specs.Blocks.{Place}
use Rattle.office_laws.specs.Regions as office
use Rattle.office_laws.specs.Regions.{Task, OfficeGood}
use Rattle.office_laws.specs.Laws.{HasGranule}
use Rattle.use_laws.specs.Pools.{Pool, PoolGood}

pub record State : Type 0 where
  pub pool : Pool
  -- of each seat what it does at the office; of a slot the region whose granules are blocks; and the office's regions
  pub desks : ℕ → Task
  pub settled : ℕ → Option RegionRec
  pub office : office.Shadow

abbrev pub IsInside : Place → Type 0
IsInside Place.Outside = ⊥
IsInside (Place.Block first granules use') = ⊤

-- the granules that are in blocks are those of settled regions, which are live; and each region is within the pool
pub record GranulesFit (k : Key) (g : office.Shadow) (settled : ℕ → Option RegionRec) (place : ℕ → Place) : Type 0 where
  pub known : (s : ℕ) (one : RegionRec) → settled s ≡ Some one → g.live s ≡ Some one
  pub within : (s : ℕ) (one : RegionRec) → g.out s ≡ Some one → one.first + one.granules ≤ k.span
  pub inside : (s : ℕ) (one : RegionRec) (y : ℕ) → settled s ≡ Some one → HasGranule one y → IsInside (place y)
  pub outside : (y : ℕ) → IsInside (place y)
      → (s : ℕ) × (one : RegionRec) × (settled s ≡ Some one) × HasGranule one y

-- a region that its seat is about to settle
abbrev pub settling_at : OfficeAt → Option RegionRec
settling_at OfficeAt.Lock = None
settling_at (OfficeAt.Region slot given) = None
settling_at (OfficeAt.Take given) = None
settling_at (OfficeAt.Base one) = None
settling_at (OfficeAt.Enter one) = None
settling_at (OfficeAt.WallSize one) = Some one
settling_at (OfficeAt.WallLeft one) = Some one
settling_at (OfficeAt.FirstSize one) = Some one
settling_at (OfficeAt.LastLeft one) = Some one
settling_at (OfficeAt.Remove given) = None
settling_at (OfficeAt.Back end) = None
settling_at (OfficeAt.Unlock end) = None

abbrev pub settling : Task → Option RegionRec
settling Task.Away = None
settling (Task.At job at) = settling_at at

pub record RegionGood (k : Key) (s : State) : Type 0 where
  pub pool : PoolGood k s.pool
  pub office : OfficeGood s.office (office.core_in s.pool.mem s.desks)
  pub placed : GranulesFit k s.office s.settled s.pool.blocks.place
  pub unsettled : (seat : ℕ) (one : RegionRec) → settling (s.desks seat) ≡ Some one
      → s.settled (slot_of one.number) ≡ None
