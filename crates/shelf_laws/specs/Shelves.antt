-- A pool with its cache of large blocks: what the bins have lies there, each block at rest, and nothing else does.
use Rattle.std.specs.Prelude.{◌≡◌, ℕ, ◌<◌, ⊤}
use Rattle.pool_words.specs.declared.words.Key.{Key}
use Rattle.guards.specs.declared.win.Taking.{Taking}
use Rattle.chain_laws.specs.Chains.{tally}
use Rattle.guard_laws.specs.Blocks.{Use, Place}
use Rattle.cache_laws.specs.Bins.{Bin, blocks_of}
use Rattle.cache_laws.specs.Good.{Task, CacheGood}
use Rattle.use_laws.specs.Uses.{Purpose}
use Rattle.use_laws.specs.Pools.{Pool, PoolGood}

pub record State : Type 0 where
  pub pool : Pool
  pub bins : ℕ → Bin
  pub jobs : ℕ → Task

-- how often a block is in the bin for blocks of so many granules
abbrev pub stock_of : (ℕ → Bin) → ℕ → ℕ → ℕ
stock_of bins b x = tally x (blocks_of (bins b).items)

-- a block of a bin lies in the cache, at rest, with as many granules as the bin is for; what lies there is in a bin
pub record ShelvesFit (stock : ℕ → ℕ → ℕ) (place : ℕ → Place) (purpose : ℕ → Purpose) : Type 0 where
  pub binned : (b x : ℕ) → 0 < stock b x
      → (purpose x ≡ Purpose.Shelved) × (place x ≡ Place.Block x b Use.Elsewhere)
  pub shelved : (x : ℕ) → purpose x ≡ Purpose.Shelved → (b : ℕ) × (0 < stock b x)

-- a block that a seat is about to put is in its hand, with as many granules as the bin is for
abbrev pub PutFits : (ℕ → Place) → ℕ → Task → Type 0
PutFits place seat Task.Away = ⊤
PutFits place seat (Task.Getting b time at) = ⊤
PutFits place seat (Task.Undoing b at) = ⊤
PutFits place seat (Task.Keeping b time block at) = place block ≡ Place.Block block b (Use.Held seat Taking.ForUse)
PutFits place seat (Task.Sweeping b time cleanup gone at) = ⊤

pub record ShelfGood (k : Key) (s : State) : Type 0 where
  pub pool : PoolGood k s.pool
  pub cache : CacheGood k s.bins s.pool.mem s.jobs
  pub shelves : ShelvesFit (stock_of s.bins) s.pool.blocks.place s.pool.purpose
  pub puts : (seat : ℕ) → PutFits s.pool.blocks.place seat (s.jobs seat)
