-- What has a granule lies in the region, and nothing else has it.
use Rattle.std.proofs.Common.{◌≡◌, ℕ, ◌+◌, ◌-◌, ◌<◌, ◌≤◌, Bool, true, false, nat_lt, List, Some, None, refl, ap, ◌∙◌, arith}
use Rattle.std.specs.Prelude.{Contains, if◌then◌else◌}
use Rattle.std.specs.declared.option.Option.{Option}
use Rattle.std.proofs.lemmas.Bool.{ltb-true}
use Rattle.pool_types.specs.declared.values.Region.{Region}
use Rattle.plain_lists.specs.Lists.{OwnSlab, Block, Lists, first_region, lies_on}
use Rattle.plain_lists.specs.Good.{slabs_on, stored_on, blocks_on, has_granule}
use Rattle.list_laws.proofs.Counts.{count-some, count-only}
use Rattle.plain_lists.proofs.Granules.{lies_on-true}
use Rattle.plain_lists.proofs.Blocks.{has}
use Rattle.plain_lists.proofs.Beside.{AreGoodBeside, at_most_once}

-- what has a granule: so many rooms, slabs, slabs of the slab cache and blocks
abbrev pub holders_of : List ℕ → Lists → ℕ → ℕ
holders_of rooms lists granule = stored_on granule rooms + (slabs_on granule lists.slabs + (stored_on granule lists.stored + blocks_on granule lists.blocks))

-- a granule that something has is one of the region, which came
pub granule_within : (rooms : List ℕ) (lists : Lists) → AreGoodBeside rooms lists → (granule : ℕ) → 0 < holders_of rooms lists granule → (lists.region ≡ Some first_region) × (granule < 128)
granule_within rooms lists good granule some = go lists.region refl
  where
    counted : (region : Option Region) → lists.region ≡ region → holders_of rooms lists granule ≡ (if has_granule region granule then 1 else 0)
    counted region is = good.once granule ∙ ap (λ r. if has_granule r granule then 1 else 0) is

    below : (b : Bool) → nat_lt granule 128 ≡ b → holders_of rooms lists granule ≡ (if b then 1 else 0) → granule < 128
    below true is one = ltb-true granule 128 is
    below false is none = absurd (omega (arith, some, none))

    go : (region : Option Region) → lists.region ≡ region → (lists.region ≡ Some first_region) × (granule < 128)
    go None is = absurd (let none = counted None is in omega (arith, some, none))
    go (Some region) is = (is ∙ ap Some (good.region_is region is), below (nat_lt granule 128) refl (counted (Some region) is))

-- a slab, a slab of the slab cache, room that is in hand and a block lie in the region
pub slab_within : (rooms : List ℕ) (lists : Lists) → AreGoodBeside rooms lists → (slab : OwnSlab) → Contains lists.slabs slab → (lists.region ≡ Some first_region) × (slab.index + 2 ≤ 128)
slab_within rooms lists good slab inside =
    let some = count-some (λ other. lies_on other.index 2 (slab.index + 1)) lists.slabs slab inside (lies_on-true slab.index 2 (slab.index + 1) (omega arith) (omega arith)) in
    let (came, below) = granule_within rooms lists good (slab.index + 1) (omega (arith, some)) in (came, omega (arith, below))

pub stored_within : (rooms : List ℕ) (lists : Lists) → AreGoodBeside rooms lists → (index : ℕ) → Contains lists.stored index → (lists.region ≡ Some first_region) × (index + 2 ≤ 128)
stored_within rooms lists good index inside =
    let some = count-some (λ other. lies_on other 2 (index + 1)) lists.stored index inside (lies_on-true index 2 (index + 1) (omega arith) (omega arith)) in
    let (came, below) = granule_within rooms lists good (index + 1) (omega (arith, some)) in (came, omega (arith, below))

pub room_within : (rooms : List ℕ) (lists : Lists) → AreGoodBeside rooms lists → (index : ℕ) → Contains rooms index → (lists.region ≡ Some first_region) × (index + 2 ≤ 128)
room_within rooms lists good index inside =
    let some = count-some (λ other. lies_on other 2 (index + 1)) rooms index inside (lies_on-true index 2 (index + 1) (omega arith) (omega arith)) in
    let (came, below) = granule_within rooms lists good (index + 1) (omega (arith, some)) in (came, omega (arith, below))

pub block_within : (rooms : List ℕ) (lists : Lists) → AreGoodBeside rooms lists → (block : Block) → Contains lists.blocks block → (lists.region ≡ Some first_region) × (block.first + block.granules ≤ 128)
block_within rooms lists good block inside =
    let more = (good.blocks_are block inside).some in
    let some = count-some (has (block.first + block.granules - 1)) lists.blocks block inside
    (lies_on-true block.first block.granules (block.first + block.granules - 1) (omega (arith, more)) (omega (arith, more))) in
    let (came, below) = granule_within rooms lists good (block.first + block.granules - 1) (omega (arith, some)) in (came, omega (arith, below, more))

-- two slabs that have one granule are one
pub only_slab : (rooms : List ℕ) (lists : Lists) → AreGoodBeside rooms lists → (granule : ℕ) (one other : OwnSlab) → Contains lists.slabs one → Contains lists.slabs other →
    lies_on one.index 2 granule ≡ true → lies_on other.index 2 granule ≡ true → one ≡ other
only_slab rooms lists good granule one other in_one in_other has_one has_other =
    let once = at_most_once rooms lists good granule in
    count-only (λ (slab : OwnSlab). lies_on slab.index 2 granule) lists.slabs one other (omega (arith, once)) in_one in_other has_one has_other

-- two slabs of one index are one
pub one_slab : (rooms : List ℕ) (lists : Lists) → AreGoodBeside rooms lists → (one other : OwnSlab) → Contains lists.slabs one → Contains lists.slabs other → one.index ≡ other.index → one ≡ other
one_slab rooms lists good one other in_one in_other same =
    only_slab rooms lists good one.index one other in_one in_other (lies_on-true one.index 2 one.index (omega arith) (omega arith)) (lies_on-true other.index 2 one.index (omega (arith, same)) (omega (arith, same)))
