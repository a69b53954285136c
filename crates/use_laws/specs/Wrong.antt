-- Wrong definitions. Each breaks a law at the pool that is named.
use Rattle.std.specs.Prelude.{◌≡◌, ℕ, ◌+◌, ◌<◌, ◌≤◌}
use Rattle.pool_words.specs.declared.words.Key.{Key}
use Rattle.word_codes.specs.Places.{granule_of}
use Rattle.guards.specs.declared.win.Taking.{Taking}
use Rattle.guard_laws.specs.Blocks.{Use, Place}
use Rattle.use_laws.specs.Pools.{Pool, PoolGood}
use Rattle.use_laws.specs.After.{pool_begun, pool_readied, pool_unshelved}

-- a slab begins in a block that is at rest, for whatever it is used
abbrev pub SlabsOverBlocks : Type 0
SlabsOverBlocks =
    (k : Key) (seat : ℕ) (p : Pool) (e class : ℕ) → p.blocks.place e ≡ Place.Block e 2 Use.Elsewhere → PoolGood k p
    → PoolGood k (pool_begun k seat e class p)

abbrev pub SlabsOverBlocksAreWrong : Type 0
SlabsOverBlocksAreWrong = SlabsOverBlocks → ⊥

-- a block that is at rest is made ready for a second object
abbrev pub SharedBlocks : Type 0
SharedBlocks =
    (k : Key) (seat : ℕ) (p : Pool) (x n unit : ℕ) → p.blocks.place x ≡ Place.Block x n Use.Elsewhere
    → x ≤ granule_of unit → granule_of unit < x + n → PoolGood k p → PoolGood k (pool_readied k seat x n unit p)

abbrev pub SharedBlocksAreWrong : Type 0
SharedBlocksAreWrong = SharedBlocks → ⊥

-- a block at rest comes into a hand, though it does not lie in the cache
abbrev pub SeizedBlocks : Type 0
SeizedBlocks =
    (k : Key) (seat : ℕ) (p : Pool) (x n : ℕ) (taking : Taking) → p.blocks.place x ≡ Place.Block x n Use.Elsewhere
    → PoolGood k p → PoolGood k (pool_unshelved seat x n taking p)

abbrev pub SeizedBlocksAreWrong : Type 0
SeizedBlocksAreWrong = SeizedBlocks → ⊥
