-- Wrong definitions. Each breaks a law at the state that is named.
use Rattle.std.specs.Prelude.{◌≡◌, ℕ, []}
use Rattle.pool_words.specs.declared.words.Key.{Key}
use Rattle.large_cache.specs.declared.keep.KeepAt.{KeepAt}
use Rattle.word_laws.specs.Memory.{put}
use Rattle.cache_laws.specs.Good.{Task}
use Rattle.shelf_laws.specs.Shelves.{State, ShelfGood}
use Rattle.shelf_laws.specs.Steps.{with_job}

-- the blocks of a bin leave it, and nobody has them
abbrev pub LostBlocks : Type 0
LostBlocks =
    (k : Key) (s : State) (b : ℕ) → ShelfGood k s
    → ShelfGood k (record s { bins = put s.bins b (record (s.bins b) { count = 0; items = [] }) })

abbrev pub LostBlocksAreWrong : Type 0
LostBlocksAreWrong = LostBlocks → ⊥

-- a seat is about to put a block that it has not in hand
abbrev pub StrangePuts : Type 0
StrangePuts =
    (k : Key) (seat : ℕ) (s : State) (b time block : ℕ) → s.jobs seat ≡ Task.Away → ShelfGood k s
    → ShelfGood k (with_job seat (Task.Keeping b time block KeepAt.Lock) s)

abbrev pub StrangePutsAreWrong : Type 0
StrangePutsAreWrong = StrangePuts → ⊥
