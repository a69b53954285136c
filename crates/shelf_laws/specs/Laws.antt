-- The laws of a pool and its cache of large blocks.
use Rattle.std.specs.Prelude.{◌≡◌, ◌≢◌, ℕ, ◌+◌, ◌^◌, ◌<◌, ◌≤◌}
use Rattle.pool_words.specs.declared.words.Key.{Key}
use Rattle.word_codes.specs.Places.{granule_of}
use Rattle.chain_laws.specs.Chains.{tally}
use Rattle.chain_laws.specs.Named.{ten_key}
use Rattle.guard_laws.specs.Blocks.{Piece}
use Rattle.cache_laws.specs.Bins.{blocks_of}
use Rattle.slab_laws.specs.Books.{Keeper}
use Rattle.use_laws.specs.Uses.{block_in}
use Rattle.use_laws.specs.Apart.{HasUnit}
use Rattle.shelf_laws.specs.Shelves.{State, ShelfGood}
use Rattle.shelf_laws.specs.Steps.{ShelfStep, ShelfRun}
use Rattle.shelf_laws.specs.Named.{fresh_state, named_state}

-- each step of each seat keeps what holds of the pool and its cache
abbrev pub StepsKeepShelf : Type 0
StepsKeepShelf = (k : Key) (seat : ℕ) (s later : State) → ShelfGood k s → ShelfStep k seat s later → ShelfGood k later

abbrev pub RunsKeepShelf : Type 0
RunsKeepShelf = (k : Key) (s later : State) → ShelfGood k s → ShelfRun k s later → ShelfGood k later

-- a block in a bin is a block of the pool, no slab's and no object's, and no unit of an object lies in it
pub record LiesFree (k : Key) (s : State) (b x : ℕ) : Type 0 where
  pub within : x + b ≤ k.span
  pub slab : s.pool.locals.book.keeper x ≡ Keeper.Nobody
  pub object : (u n : ℕ) → block_in (s.pool.objects.held u) ≢ Piece.Got x n
  pub units : (u unit : ℕ) → HasUnit s.pool u unit → x ≤ granule_of unit → granule_of unit < x + b → ⊥

abbrev pub BlocksInBinsAreFree : Type 0
BlocksInBinsAreFree =
    (k : Key) (s : State) (b x : ℕ) → ShelfGood k s → 0 < tally x (blocks_of (s.bins b).items)
    → LiesFree k s b x

-- a new pool
abbrev pub FreshShelvesAreGood : Type 0
FreshShelvesAreGood = (k : Key) → k.span < 2 ^ 32 → ShelfGood k (fresh_state k)

-- a block in a bin, and one that a seat is about to put there
abbrev pub NamedShelfStands : Type 0
NamedShelfStands = ShelfGood ten_key named_state
