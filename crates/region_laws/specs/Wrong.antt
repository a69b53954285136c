-- A wrong definition. It breaks a law at the state that is named.
use Rattle.std.specs.Prelude.{ℕ, Some, None}
use Rattle.pool_words.specs.declared.words.Key.{Key}
use Rattle.word_laws.specs.Memory.{put}
use Rattle.office_laws.specs.Steps.{shadow_removed}
use Rattle.region_laws.specs.Granules.{State, RegionGood}

-- a region goes, and its granules stay in blocks
abbrev pub EarlyRemovals : Type 0
EarlyRemovals =
    (k : Key) (s : State) (slot : ℕ) → RegionGood k s
    → RegionGood k (record s {
      settled = put s.settled slot None;
      office = shadow_removed (Some slot) s.office;
    })

abbrev pub EarlyRemovalsAreWrong : Type 0
EarlyRemovalsAreWrong = EarlyRemovals → ⊥
