-- Lists that are good beside room for slabs that is in hand.
use Rattle.std.proofs.Common.{◌≡◌, ◌≢◌, ℕ, ◌+◌, ◌%◌, ◌<◌, ◌≤◌, List, [], length, Some, refl, arith}
use Rattle.std.specs.Prelude.{if◌then◌else◌, Contains}
use Rattle.pool_types.specs.declared.values.Region.{Region}
use Rattle.plain_lists.specs.Lists.{OwnSlab, Block, Lists, no_lists, first_region}
use Rattle.plain_lists.specs.Good.{IsGoodSlab, IsGoodBlock, AreGood, slabs_on, stored_on, blocks_on, has_granule, IsHeld}
use Rattle.plain_lists.proofs.Granules.{has_granule-once}
use Rattle.list_laws.proofs.Members.{Contains-none}

-- The lists are good, but that room for slabs at these indices is in hand: each granule of the region is in one room, one slab, one slab
-- of the slab cache or one block. How many slabs the slab cache may have is left out: for a moment it has one too many.
pub record AreGoodBeside (rooms : List ℕ) (lists : Lists) : Type 0 where
  pub region_is : (region : Region) → lists.region ≡ Some region → region ≡ first_region
  pub slabs_are : (slab : OwnSlab) → Contains lists.slabs slab → IsGoodSlab slab
  pub stored_are : (index : ℕ) → Contains lists.stored index → index % 2 ≡ 0
  pub blocks_are : (block : Block) → Contains lists.blocks block → IsGoodBlock block
  pub rooms_are : (index : ℕ) → Contains rooms index → index % 2 ≡ 0
  pub once : (granule : ℕ) → stored_on granule rooms + (slabs_on granule lists.slabs + (stored_on granule lists.stored + blocks_on granule lists.blocks)) ≡ (if has_granule lists.region granule then 1 else 0)
  pub parted : (one other : Block) → Contains lists.blocks one → Contains lists.blocks other → one.first + one.granules ≢ other.first
  pub numbers : (slab : OwnSlab) (object number : ℕ) → Contains lists.slabs slab → IsHeld slab object number → (0 < number) × (number ≤ lists.granted)
  pub apart : (one other : OwnSlab) (i j number : ℕ) → Contains lists.slabs one → Contains lists.slabs other → IsHeld one i number → IsHeld other j number → (one ≡ other) × (i ≡ j)

-- good lists are good beside no room
pub beside_none : (lists : Lists) → AreGood lists → AreGoodBeside [] lists
beside_none lists good = record {
  region_is = good.region_is;
  slabs_are = good.slabs_are;
  stored_are = good.stored_are;
  blocks_are = good.blocks_are;
  rooms_are = λ index inside. absurd (Contains-none index inside);
  once = λ granule. let once = good.once granule in omega (arith, once);
  parted = good.parted;
  numbers = good.numbers;
  apart = good.apart;
}

-- and the other way round, where the slab cache has not too many
pub good_from : (lists : Lists) → AreGoodBeside [] lists → length lists.stored ≤ 32 → AreGood lists
good_from lists good few = record {
  region_is = good.region_is;
  slabs_are = good.slabs_are;
  stored_are = good.stored_are;
  blocks_are = good.blocks_are;
  each_once = record { once = λ granule. let once = good.once granule in omega (arith, once); parted = good.parted };
  few = few;
  numbers = good.numbers;
  apart = good.apart;
}

-- a granule is in one place at most
pub at_most_once : (rooms : List ℕ) (lists : Lists) → AreGoodBeside rooms lists → (granule : ℕ) →
    stored_on granule rooms + (slabs_on granule lists.slabs + (stored_on granule lists.stored + blocks_on granule lists.blocks)) ≤ 1
at_most_once rooms lists good granule = let once = good.once granule in let one = has_granule-once lists.region granule in omega (arith, once, one)

-- a pool of which nothing was asked has good lists
pub fresh_good : AreGood no_lists
fresh_good = record {
  region_is = λ region is. absurd (let e = is in cc);
  slabs_are = λ slab inside. absurd (Contains-none slab inside);
  stored_are = λ index inside. absurd (Contains-none index inside);
  blocks_are = λ block inside. absurd (Contains-none block inside);
  each_once = record { once = λ granule. refl; parted = λ one other inside. absurd (Contains-none one inside) };
  few = omega arith;
  numbers = λ slab object number inside. absurd (Contains-none slab inside);
  apart = λ one other i j number inside. absurd (Contains-none one inside);
}
