-- How the cache of large blocks is cleaned: by the numbers of its clock, which each call on it draws.
use Rattle.std.specs.Prelude.{◌≡◌, ℕ, ◌+◌, ◌%◌, ◌≤◌, ◌==◌, Bool, true, false, if◌then◌else◌, List, [], ◌∷◌, length}
use Rattle.std.specs.Prelude.{filter}
use Rattle.std.specs.List.{flat_map}
use Rattle.std.specs.Bool.{OnTrue}
use Rattle.part_model.specs.declared.holders.HolderKind.TheVariants.{LargeHead as OfLargeHead}
use Rattle.part_model.specs.declared.moves.Part.{Part}
use Rattle.part_model.specs.Totals.{is_at}
use Rattle.machine.specs.Journal.{Sight, Nothing_seen, Bins_seen, Raw_called, Tick_drawn, Items_seen}
use Rattle.machine.specs.Answers.{Moment, moved_parts}

-- the cache is cleaned at each number of the clock that is a multiple of this
abbrev pub cleanup_ticks : ℕ
cleanup_ticks = 256

-- the most granules that a cached block has
abbrev pub most_cached : ℕ
most_cached = 1023

-- the number that a turn drew, if it drew one
abbrev pub tick_of : Sight → List ℕ
tick_of Nothing_seen = []
tick_of (Bins_seen look) = []
tick_of (Raw_called call) = []
tick_of (Tick_drawn tick) = tick ∷ []
tick_of (Items_seen granules items) = []

-- of how many granules the blocks are of which a turn asked whether the cache has some
abbrev pub bin_seen : Sight → List ℕ
bin_seen Nothing_seen = []
bin_seen (Bins_seen look) = []
bin_seen (Raw_called call) = []
bin_seen (Tick_drawn tick) = []
bin_seen (Items_seen granules items) = granules ∷ []

-- among these are all numbers of granules from this one on to the most, one after another
abbrev pub HasAllFrom : ℕ → List ℕ → Type 0
HasAllFrom granules [] = granules ≡ most_cached + 1
HasAllFrom granules (seen ∷ later) = HasAllFrom (if seen == granules then granules + 1 else granules) later

-- a number at which the cache is cleaned
abbrev pub is_cleanup : List ℕ → Bool
is_cleanup [] = false
is_cleanup (tick ∷ ticks) = tick % cleanup_ticks == 0

-- after each number at which the cache is cleaned the call asked for blocks of each number of granules, one after
-- another
abbrev pub AsksAll : List Moment → Type 0
AsksAll [] = Unit {0}
AsksAll (moment ∷ moments) =
    OnTrue (is_cleanup (tick_of moment.turn.seen))
    (HasAllFrom 1 (flat_map (λ later. bin_seen later.turn.seen) moments))
    × AsksAll moments

-- a part makes or ends the head of a large object
abbrev pub is_large : Part → Bool
is_large part = if is_at OfLargeHead part.from then true else is_at OfLargeHead part.to

-- The call drew a number for each block that it granted or freed, and asked all that the numbers wanted.
pub record IsCleaned (moments : List Moment) : Type 0 where
  pub drawn : length (filter is_large (moved_parts moments))
      ≤ length (flat_map (λ moment. tick_of moment.turn.seen) moments)
  pub asked : AsksAll moments
