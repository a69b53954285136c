-- The laws of blocks in bins, queued, in hands and at rest.
use Rattle.std.specs.Prelude.{◌≡◌, ◌⊎◌, ℕ, ◌^◌, ◌<◌}
use Rattle.pool_words.specs.declared.words.Key.{Key}
use Rattle.guard_laws.specs.Blocks.{Use, Place}
use Rattle.free_laws.specs.Spaces.{Space, FreeGood}
use Rattle.free_laws.specs.Places.{BlockIs, LiesOutside, LiesIn}
use Rattle.free_laws.specs.Steps.{FreeStep, FreeRun}
use Rattle.free_laws.specs.Named.{fresh_space, IsNamed}

-- each granule lies outside of all regions, or in one block; and the block is at rest for one purpose, in a bin,
-- queued, or in one seat's hand, and nothing else
abbrev pub GranulesHaveOnePlace : Type 0
GranulesHaveOnePlace = (k : Key) (s : Space) (z : ℕ) → FreeGood k s → LiesOutside s z ⊎ LiesIn s z

-- what a block is by its use
abbrev pub BlocksAreOneThing : Type 0
BlocksAreOneThing =
    (k : Key) (s : Space) (x n : ℕ) (u : Use) → FreeGood k s → s.pool.blocks.place x ≡ Place.Block x n u
    → BlockIs s x n u

-- each step of each seat keeps what holds of blocks in bins, queued, in hands and at rest
abbrev pub StepsKeepFree : Type 0
StepsKeepFree = (k : Key) (seat : ℕ) (s later : Space) → FreeGood k s → FreeStep k seat s later → FreeGood k later

abbrev pub RunsKeepFree : Type 0
RunsKeepFree = (k : Key) (s later : Space) → FreeGood k s → FreeRun k s later → FreeGood k later

-- a new pool, in which no block is
abbrev pub FreshSpacesAreGood : Type 0
FreshSpacesAreGood = (k : Key) → k.span < 2 ^ 32 → FreeGood k (fresh_space k)

-- steps of one seat lead from a new pool to one with a block in a bin that is about to be linked
abbrev pub NamedSpaceStands : Type 0
NamedSpaceStands = IsNamed
