-- What the bins' arrays say of the free blocks.
use Rattle.std.specs.Prelude.{◌≡◌, ℕ, ◌+◌, ◌%◌, ◌<◌, ◌≤◌, ◌⊎◌, ◌==◌, Bool, not, List, length, map, filter, find, slice_index_or, Contains, Some, None}
use Rattle.std.specs.declared.option.Option.{Option}
use Rattle.index_lists.specs.Lists.{Lists, members}
use Rattle.plain_lists.specs.Lists.{Block}
use Rattle.plain_lists.specs.Backend.{bin_of, granules_in, after_cut}
use Rattle.plain_pool.specs.declared.bins.Bins.{Bins}

-- a block by its first granule and its number of granules
abbrev pub block_at : ℕ → ℕ → Block
block_at first granules = record { first = first; granules = granules }

-- the first granules of the blocks of a bin
abbrev pub firsts_in : ℕ → List Block → List ℕ
firsts_in bin blocks = map (λ block. block.first) (filter (λ block. bin_of block == bin) blocks)

-- the first granule of a block, where there is one
abbrev pub first_granule : Option Block → Option ℕ
first_granule (Some block) = Some block.first
first_granule None = None

-- the block begins at the place, or ends there
abbrev pub begins_at : ℕ → Block → Bool
begins_at place block = place == block.first

abbrev pub ends_at : ℕ → Block → Bool
ends_at place block = block.first + block.granules == place

-- the granules of the block that begins at the place, and of the one that ends there
abbrev pub granules_from : ℕ → List Block → ℕ
granules_from place blocks = granules_in (find (begins_at place) blocks)

abbrev pub granules_to : ℕ → List Block → ℕ
granules_to place blocks = granules_in (find (ends_at place) blocks)

-- the blocks but that which begins at the place, or but that which ends there
abbrev pub without_from : ℕ → List Block → List Block
without_from place blocks = filter (λ block. not (begins_at place block)) blocks

abbrev pub without_to : ℕ → List Block → List Block
without_to place blocks = filter (λ block. not (ends_at place block)) blocks

-- the block is one of whole slabs, in the region
pub record IsBlock (block : Block) : Type 0 where
  pub even : block.first % 2 ≡ 0
  pub pairs : block.granules % 2 ≡ 0
  pub some : 0 < block.granules
  pub inside : block.first + block.granules ≤ 128

-- no granule is in both blocks
abbrev pub IsApart : Block → Block → Type 0
IsApart one other = (one.first + one.granules ≤ other.first) ⊎ (other.first + other.granules ≤ one.first)

-- no two of these blocks have a granule in common
pub record AreBlocks (blocks : List Block) : Type 0 where
  pub each : (block : Block) → Contains blocks block → IsBlock block
  pub apart : (one other : Block) → Contains blocks one → Contains blocks other → (one ≡ other) ⊎ IsApart one other

-- the arrays are those of these blocks
pub record BinsFit (lists : Lists) (begins ends : List ℕ) (blocks : List Block) : Type 0 where
  pub bins : length lists.lists ≡ 512
  pub places : lists.indices ≡ 129
  pub begins_long : length begins ≡ 129
  pub ends_long : length ends ≡ 129
  pub listed : (bin : ℕ) → bin < 512 → members lists bin ≡ firsts_in bin blocks
  pub begins_are : (place : ℕ) → slice_index_or begins place 0 ≡ granules_from place blocks
  pub ends_are : (place : ℕ) → slice_index_or ends place 0 ≡ granules_to place blocks
  pub blocks_are : AreBlocks blocks

-- the bins hold these blocks
abbrev pub AreBins : Bins → List Block → Type 0
AreBins bins blocks = BinsFit bins.lists bins.begins.items bins.ends.items blocks

-- the block has no granule in common with these blocks
pub record IsNew (blocks : List Block) (block : Block) : Type 0 where
  pub is : IsBlock block
  pub apart : (other : Block) → Contains blocks other → IsApart other block

-- the two granules from the index on are in no block
pub record IsClear (index : ℕ) (blocks : List Block) : Type 0 where
  pub even : index % 2 ≡ 0
  pub inside : index + 2 ≤ 128
  pub apart : (block : Block) → Contains blocks block
      → (block.first + block.granules ≤ index) ⊎ (index + 2 ≤ block.first)

-- a slab was cut out of this one of the blocks, or there was none
abbrev pub IsCut : Bins → List Block → Option Block → Option ℕ → Type 0
IsCut bins blocks (Some block) index = (index ≡ Some block.first) × AreBins bins (after_cut block blocks)
IsCut bins blocks None index = (index ≡ None) × AreBins bins blocks
