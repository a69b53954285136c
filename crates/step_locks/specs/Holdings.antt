-- The lock that a seat has, and what its next step makes of that.
use Rattle.std.specs.Prelude.{ℕ, cond, eqb, ltb, Option, Some, None}
use Rattle.pool_types.specs.Geometry.{bin_count}
use Rattle.pool_words.specs.Words.{cache_counts}

-- a seat has at most one lock: a bin's, or that of the cache bin for blocks of so many granules
pub data Holding : Type 0 where
  no_lock : Holding
  bin_lock : ℕ → Holding
  cache_lock : ℕ → Holding

-- the next step is to take a lock, or frees the one that the seat has, or is made with it, or without one
pub data Change : Type 0 where
  keeps : Change
  takes : Holding → Change
  frees : Change

-- what a seat has after a step that found this value
abbrev pub after_change : Change → ℕ → Holding → Holding
after_change keeps found had = had
after_change (takes lock) found had = cond (eqb found 0) lock no_lock
after_change frees found had = no_lock

-- the bin whose lock it is, where there is such a bin
abbrev pub bin_held : Holding → Option ℕ
bin_held no_lock = None
bin_held (bin_lock bin) = cond (ltb bin bin_count) (Some bin) None
bin_held (cache_lock granules) = None

-- the cache bin whose lock it is, where there is such a bin
abbrev pub cache_held : Holding → Option ℕ
cache_held no_lock = None
cache_held (bin_lock bin) = None
cache_held (cache_lock granules) = cond (ltb granules cache_counts) (Some granules) None
