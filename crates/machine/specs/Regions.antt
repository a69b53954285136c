-- How regions lie in the pool's span, what number the next one has, and of which parts a region is. What a pool asks
-- for, the numbers and the places are those of `regions`.
use Rattle.std.specs.Prelude.{◌≡◌, ℕ, ◌+◌, ◌-◌, ◌*◌, ◌^◌, ◌<◌, ◌≤◌, ◌==◌, true, false, if◌then◌else◌, List, [], ◌∷◌}
use Rattle.std.specs.Prelude.{◌++◌, length}
use Rattle.std.specs.Prelude.{Contains, Option, Some, None}
use Rattle.pool_types.specs.declared.policy.RegionRec.{RegionRec}
use Rattle.pool_types.specs.Geometry.{granule_bytes}
use Rattle.regions.specs.Asking.{asked_bytes}
use Rattle.regions.specs.Numbers.{IsNextNumber, is_full}
use Rattle.regions.specs.Offices.{AreApart}
use Rattle.regions.specs.Placing.{IsRecord}
use Rattle.part_model.specs.declared.holders.Holder.{Holder}
use Rattle.part_model.specs.declared.holders.Holder.TheVariants.{Waste, Hand}
use Rattle.part_model.specs.declared.moves.Range.{Range}
use Rattle.part_model.specs.declared.moves.Part.{Part}
use Rattle.machine.specs.States.{Terms, State}
use Rattle.machine.specs.Ranges.{part_of, region_range}

-- a part, where it has a byte
abbrev pub some_part : Range → Option Holder → Option Holder → List Part
some_part range from to = if range.bytes == 0 then [] else part_of range from to ∷ []

-- the bytes of a region before its granules, its granules, and the bytes behind them
abbrev pub front_range : ℕ → RegionRec → Range
front_range pool region = region_range pool region 0 region.waste

abbrev pub granules_range : ℕ → RegionRec → Range
granules_range pool region = region_range pool region region.waste (region.granules * granule_bytes)

abbrev pub back_range : ℕ → RegionRec → Range
back_range pool region =
    region_range pool region (region.waste + region.granules * granule_bytes)
    (region.region.bytes - (region.waste + region.granules * granule_bytes))

-- the parts of a region that comes: its granules to the seat's hand, all else to waste
abbrev pub coming_parts : ℕ → ℕ → RegionRec → List Part
coming_parts pool seat region =
    some_part (front_range pool region) None (Some Waste)
    ++ some_part (granules_range pool region) None (Some (Hand seat))
    ++ some_part (back_range pool region) None (Some Waste)

-- the parts of a region that leaves: its granules from the seat's hand, all else from waste
abbrev pub leaving_parts : ℕ → ℕ → RegionRec → List Part
leaving_parts pool seat region =
    some_part (front_range pool region) (Some Waste) None
    ++ some_part (granules_range pool region) (Some (Hand seat)) None
    ++ some_part (back_range pool region) (Some Waste) None

-- the pool may obtain a region: a fixed pool gets one and no more
abbrev pub MayObtain : Terms → State → Type 0
MayObtain terms state = terms.policy.fixed ≡ true → state.next ≡ 0

-- one more region can have this number
pub record HasNumber (state : State) (number : ℕ) : Type 0 where
  pub next_is : IsNextNumber state.regions state.next number
  pub open_is : is_full (length state.regions) number ≡ false

-- The region can come: it has the next number and lies where its granules and its wall have their place in the span,
-- apart from each live one, by indices and by addresses.
pub record IsNewRegion (terms : Terms) (state : State) (region : RegionRec) : Type 0 where
  pub only : MayObtain terms state
  pub number : HasNumber state region.number
  pub placed : IsRecord terms.limits.span state.regions region
  pub apart : (other : RegionRec) → Contains state.regions other → AreApart other region
  pub some : 0 < region.region.bytes
  pub inside : region.waste + region.granules * granule_bytes ≤ region.region.bytes
  pub ends : region.region.base + region.region.bytes ≤ 2 ^ 64 - 1

-- how many bytes the pool asks its callback for, where it needs so many granules
abbrev pub bytes_for : Terms → ℕ → ℕ
bytes_for terms granules = asked_bytes terms.policy terms.limits granules
