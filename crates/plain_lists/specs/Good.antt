-- What holds of the lists of a pool between any two whole calls.
use Rattle.std.specs.Prelude.{◌≡◌, ◌≢◌, ℕ, ◌+◌, ◌%◌, ◌<◌, ◌≤◌, Bool, ◌&&◌, ◌==◌, nat_lt, if◌then◌else◌, List, [], ◌∷◌}
use Rattle.std.specs.Prelude.{length, filter, slice_get, is_some, Contains, Some, None}
use Rattle.std.specs.declared.option.Option.{Option}
use Rattle.pool_types.specs.declared.values.Region.{Region}
use Rattle.pool_types.specs.declared.values.Request.{Request}
use Rattle.size_classes.specs.Classes.{class_objects}
use Rattle.plain_lists.specs.Lists.{OwnSlab, Block, Lists, no_lists, first_region, lies_on}
use Rattle.plain_lists.specs.Whole.{whole, IsServed}

-- how many of the list's members are this one
abbrev pub times : ℕ → List ℕ → ℕ
times member members = length (filter (λ other. other == member) members)

-- how many members are none
abbrev pub nones : List (Option ℕ) → ℕ
nones [] = 0
nones (Some number ∷ objects) = nones objects
nones (None ∷ objects) = nones objects + 1

-- The slab's lists agree. Its private objects are those that came back, each once; so as many are private as came
-- back, and one object at least is held.
pub record IsGoodSlab (slab : OwnSlab) : Type 0 where
  pub class_is : slab.class < 26
  pub even : slab.index % 2 ≡ 0
  pub few : length slab.objects ≤ class_objects slab.class
  pub listed : (object : ℕ) → slice_get slab.objects object ≡ Some None → times object slab.private ≡ 1
  pub unlisted : (object : ℕ) → slice_get slab.objects object ≢ Some None → times object slab.private ≡ 0
  pub counted : length slab.private ≡ nones slab.objects
  pub held : length slab.private < length slab.objects

-- the block is one of slabs: it begins at an even index, and has an even number of granules
pub record IsGoodBlock (block : Block) : Type 0 where
  pub even : block.first % 2 ≡ 0
  pub pairs : block.granules % 2 ≡ 0
  pub some : 0 < block.granules

-- how many slabs, slabs of the slab cache and blocks have the granule
abbrev pub slabs_on : ℕ → List OwnSlab → ℕ
slabs_on granule slabs = length (filter (λ slab. lies_on slab.index 2 granule) slabs)

abbrev pub stored_on : ℕ → List ℕ → ℕ
stored_on granule stored = length (filter (λ index. lies_on index 2 granule) stored)

abbrev pub blocks_on : ℕ → List Block → ℕ
blocks_on granule blocks = length (filter (λ block. lies_on block.first block.granules granule) blocks)

-- the region has the granule
abbrev pub has_granule : Option Region → ℕ → Bool
has_granule region granule = is_some region && nat_lt granule 128

-- the object of the slab is held under the number
abbrev pub IsHeld : OwnSlab → ℕ → ℕ → Type 0
IsHeld slab object number = slice_get slab.objects object ≡ Some (Some number)

-- in how many places a granule is: slabs, slabs of the slab cache and blocks
abbrev pub places_of : Lists → ℕ → ℕ
places_of lists granule =
    slabs_on granule lists.slabs + (stored_on granule lists.stored + blocks_on granule lists.blocks)

-- A granule of the region is in exactly one place, and no other granule is in any. No block ends where another begins:
-- a block that would was joined with it.
pub record HasEachOnce (lists : Lists) : Type 0 where
  pub once : (granule : ℕ) → places_of lists granule ≡ (if has_granule lists.region granule then 1 else 0)
  pub parted : (one other : Block) → Contains lists.blocks one → Contains lists.blocks other →
      one.first + one.granules ≢ other.first

-- The lists are good: this is the invariant between calls.
pub record AreGood (lists : Lists) : Type 0 where
  -- the region is the first that the callback gives
  pub region_is : (region : Region) → lists.region ≡ Some region → region ≡ first_region
  -- each slab, each slab of the slab cache and each block is good
  pub slabs_are : (slab : OwnSlab) → Contains lists.slabs slab → IsGoodSlab slab
  pub stored_are : (index : ℕ) → Contains lists.stored index → index % 2 ≡ 0
  pub blocks_are : (block : Block) → Contains lists.blocks block → IsGoodBlock block
  -- each granule is in one of them
  pub each_once : HasEachOnce lists
  pub open each_once use *
  -- the slab cache is trimmed
  pub few : length lists.stored ≤ 32
  -- no object is held under a number that was not given yet, and no two under one
  pub numbers : (slab : OwnSlab) (object number : ℕ) → Contains lists.slabs slab → IsHeld slab object number →
      (0 < number) × (number ≤ lists.granted)
  pub apart : (one other : OwnSlab) (i j number : ℕ) → Contains lists.slabs one → Contains lists.slabs other →
      IsHeld one i number → IsHeld other j number → (one ≡ other) × (i ≡ j)

-- a pool of which nothing was asked has good lists, and each call that is served leaves lists good
pub record CallsKeepGood : Type 0 where
  pub fresh : AreGood no_lists
  pub kept : (lists : Lists) (request : Request) → AreGood lists → IsServed request →
      AreGood (whole lists request).lists
