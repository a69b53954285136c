-- What a pool's arrays say of its lists.
use Rattle.std.specs.Prelude.{◌≡◌, ◌≢◌, ℕ, ◌+◌, ◌%◌, ◌≤◌, List, Contains, Some, None}
use Rattle.std.specs.declared.option.Option.{Option}
use Rattle.plain_lists.specs.Lists.{Block, Lists}
use Rattle.plain_lists.specs.Whole.{Room}
use Rattle.plain_lists.specs.Good.{AreGood, IsGoodBlock, stored_on, blocks_on}
use Rattle.plain_pool.specs.declared.arrays.PoolArrays.{PoolArrays}
use Rattle.plain_pool.specs.Bins.{AreBins}
use Rattle.plain_pool.specs.Slabs.{AreSlabs}

-- the arrays are those of these lists
pub record Has (pool : PoolArrays) (lists : Lists) : Type 0 where
  pub region : pool.region ≡ lists.region
  pub slabs : AreSlabs pool.slabs lists.slabs
  pub bins : AreBins pool.bins lists.blocks
  pub stored : pool.stored.items ≡ lists.stored
  pub granted : pool.granted ≡ lists.granted

-- the pool stands for these lists (the abstraction relation), which are good
pub record Stands (pool : PoolArrays) (lists : Lists) : Type 0 where
  pub good : AreGood lists
  pub arrays : Has pool lists

-- the pool has the lists without the room, or there was none
abbrev pub IsRoomOf : PoolArrays → Lists → Option Room → Option ℕ → Type 0
IsRoomOf pool lists (Some room) index = (index ≡ Some room.index) × Has pool room.lists
IsRoomOf pool lists None index = (index ≡ None) × Has pool lists

-- The blocks are good, and neither they nor the slabs of the slab cache have a granule in common.
pub record AreStored (stored : List ℕ) (blocks : List Block) : Type 0 where
  pub even : (index : ℕ) → Contains stored index → index % 2 ≡ 0
  pub inside : (index : ℕ) → Contains stored index → index + 2 ≤ 128
  pub once : (granule : ℕ) → stored_on granule stored + blocks_on granule blocks ≤ 1
  pub each : (block : Block) → Contains blocks block → IsGoodBlock block
  pub parted : (one other : Block) → Contains blocks one → Contains blocks other
      → one.first + one.granules ≢ other.first
