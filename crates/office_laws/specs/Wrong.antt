-- Wrong definitions. Each breaks a law at the office that is named.
use Rattle.std.specs.Prelude.{◌≡◌, ◌⊎◌, ℕ, ◌+◌, ◌≤◌, Some, None}
use Rattle.pool_types.specs.declared.policy.RegionRec.{RegionRec}
use Rattle.word_codes.specs.Places.{slot_of}
use Rattle.word_codes.specs.RegionWords.{FitsRegion}
use Rattle.region_steps.specs.Office.{region_word_of}
use Rattle.word_laws.specs.Memory.{put}
use Rattle.office_laws.specs.Regions.{Task, Shadow, Core, OutFits, OfficeGood}
use Rattle.office_laws.specs.Steps.{shadow_removed}
use Rattle.office_laws.specs.Named.{no_region_word}

-- a region's word is cleared before the office is taken
abbrev pub EarlyRemovals : Type 0
EarlyRemovals =
    (seat s : ℕ) (g : Shadow) (c : Core) → c.tasks seat ≡ Task.Away → OfficeGood g c
    → OfficeGood (shadow_removed (Some s) g) (record c { words = put c.words s no_region_word })

abbrev pub EarlyRemovalsAreWrong : Type 0
EarlyRemovalsAreWrong = EarlyRemovals → ⊥

-- a region comes right behind another, without a wall between them
abbrev pub TouchAtMost : RegionRec → RegionRec → Type 0
TouchAtMost a b = (a.first + a.granules ≤ b.first) ⊎ (b.first + b.granules ≤ a.first)

abbrev pub WalllessRegions : Type 0
WalllessRegions =
    (g : Shadow) (one : RegionRec) → g.counter ≤ one.number → g.out (slot_of one.number) ≡ None
    → FitsRegion (region_word_of one) → ((s : ℕ) (other : RegionRec) → g.out s ≡ Some other → TouchAtMost other one)
    → OutFits g.out g.counter → OutFits (put g.out (slot_of one.number) (Some one)) (one.number + 1)

abbrev pub WalllessRegionsAreWrong : Type 0
WalllessRegionsAreWrong = WalllessRegions → ⊥
