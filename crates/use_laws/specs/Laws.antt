-- The laws of blocks and what they are used for.
use Rattle.std.specs.Prelude.{◌≡◌, ◌≢◌, ◌⊎◌, ℕ, ◌+◌, ◌^◌, ◌<◌, ◌≤◌}
use Rattle.pool_words.specs.declared.words.Key.{Key}
use Rattle.word_codes.specs.Places.{granule_of}
use Rattle.guards.specs.declared.win.Taking.{Taking}
use Rattle.chain_laws.specs.Named.{ten_key}
use Rattle.guard_laws.specs.Blocks.{Use, Place, Piece}
use Rattle.slab_laws.specs.Books.{Keeper}
use Rattle.object_laws.specs.Objects.{Held, grant_by}
use Rattle.use_laws.specs.Uses.{Purpose, IsKept, block_in}
use Rattle.use_laws.specs.Pools.{Pool, PoolGood}
use Rattle.use_laws.specs.Steps.{PoolStep, PoolRun}
use Rattle.use_laws.specs.Stays.{HandStays, ShelfStays, LeavesShelf}
use Rattle.use_laws.specs.Apart.{HasUnit, RestsAt}
use Rattle.use_laws.specs.Named.{fresh_pool, named_pool, first_unit, large_unit}

-- each step of each seat keeps what holds of blocks, slabs and objects, and of what each block is used for
abbrev pub StepsKeepPool : Type 0
StepsKeepPool = (k : Key) (seat : ℕ) (p later : Pool) → PoolGood k p → PoolStep k seat p later → PoolGood k later

abbrev pub RunsKeepPool : Type 0
RunsKeepPool = (k : Key) (p later : Pool) → PoolGood k p → PoolRun k p later → PoolGood k later

-- no other seat takes a block from a seat's hand
abbrev pub OthersLeaveBlocksInHand : Type 0
OthersLeaveBlocksInHand =
    (k : Key) (seat other : ℕ) (p later : Pool) → PoolGood k p → PoolStep k other p later → other ≢ seat
    → HandStays p.blocks.place later.blocks.place seat

-- what lies in the cache of large blocks stays there, but where a step puts a block there or takes one
abbrev pub OtherStepsLeaveTheShelf : Type 0
OtherStepsLeaveTheShelf =
    (k : Key) (seat : ℕ) (p later : Pool) → PoolGood k p → (step : PoolStep k seat p later)
    → LeavesShelf k seat p later step
    → ShelfStays p.blocks.place later.blocks.place p.purpose later.purpose

-- no unit is of two objects: small or large, held, private, given back, or about to be granted
abbrev pub ObjectsLieApart : Type 0
ObjectsLieApart = (k : Key) (p : Pool) (u v unit : ℕ) → PoolGood k p → HasUnit p u unit → HasUnit p v unit → u ≡ v

-- each unit of an object lies in a block at rest, a slab or the object's own: in none that is in a bin, in a hand, or
-- queued, nor in the cache
abbrev pub ObjectsLieInBlocks : Type 0
ObjectsLieInBlocks = (k : Key) (p : Pool) (u unit : ℕ) → PoolGood k p → HasUnit p u unit
    → RestsAt p u (granule_of unit)

-- in a block that is not at rest, as one in a seat's hand, no slab begins, and no object
pub record IsBareBlock (p : Pool) (x n : ℕ) : Type 0 where
  pub slabs : (e : ℕ) → x ≤ e → e < x + n → p.locals.book.keeper e ≡ Keeper.Nobody
  pub objects : (u : ℕ) → x ≤ granule_of u → granule_of u < x + n → p.objects.held u ≡ Held.NotOut

abbrev pub BlocksInHandAreBare : Type 0
BlocksInHandAreBare =
    (k : Key) (p : Pool) (x n : ℕ) (u : Use) → PoolGood k p → p.blocks.place x ≡ Place.Block x n u
    → u ≢ Use.Elsewhere → IsBareBlock p x n

-- a block at rest is a slab's, of two granules, or one large object's, or lies in the cache
pub record IsSlabBlock (p : Pool) (x n : ℕ) : Type 0 where
  pub long : n ≡ 2
  pub kept : IsKept (p.locals.book.keeper x)
  pub none : (u m : ℕ) → block_in (p.objects.held u) ≢ Piece.Got x m

pub record IsObjectBlock (p : Pool) (x n : ℕ) : Type 0 where
  pub unit : ℕ
  pub has : block_in (p.objects.held unit) ≡ Piece.Got x n
  pub one : (u m : ℕ) → block_in (p.objects.held u) ≡ Piece.Got x m → u ≡ unit
  pub none : p.locals.book.keeper x ≡ Keeper.Nobody

pub record IsShelvedBlock (p : Pool) (x n : ℕ) : Type 0 where
  pub shelved : p.purpose x ≡ Purpose.Shelved
  pub slab : p.locals.book.keeper x ≡ Keeper.Nobody
  pub object : (u m : ℕ) → block_in (p.objects.held u) ≢ Piece.Got x m

abbrev pub BlocksHaveOnePurpose : Type 0
BlocksHaveOnePurpose =
    (k : Key) (p : Pool) (x n : ℕ) → PoolGood k p → p.blocks.place x ≡ Place.Block x n Use.Elsewhere
    → IsSlabBlock p x n ⊎ IsObjectBlock p x n ⊎ IsShelvedBlock p x n

-- a new pool
abbrev pub FreshPoolsAreGood : Type 0
FreshPoolsAreGood = (k : Key) → k.span < 2 ^ 32 → PoolGood k (fresh_pool k)

-- steps of one seat lead from a new pool to one with blocks in all uses
pub record IsNamed : Type 0 where
  pub run : PoolRun ten_key (fresh_pool ten_key) named_pool
  pub good : PoolGood ten_key named_pool
  pub object : named_pool.objects.held first_unit ≡ Held.Object (grant_by 0 1)
  pub cached : named_pool.locals.book.keeper 2 ≡ Keeper.Cached 0
  pub large : named_pool.objects.held large_unit ≡ Held.Large (grant_by 0 2) 4 2
  pub shelved : named_pool.purpose 6 ≡ Purpose.Shelved
  pub hand : named_pool.blocks.place 7 ≡ Place.Block 7 1 (Use.Held 0 Taking.ForUse)
  pub bin : named_pool.blocks.place 8 ≡ Place.Block 8 2 Use.Bin

abbrev pub NamedPoolStands : Type 0
NamedPoolStands = IsNamed
