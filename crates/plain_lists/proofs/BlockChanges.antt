-- The lists after a slab was cut out of a block, after a region came, and after a slab's room was put.
use Rattle.std.proofs.Common.{◌≡◌, ◌≢◌, ℕ, ◌+◌, ◌%◌, Bool, true, false, ◌&&◌, nat_lt, inl, inr, List, ◌∷◌, ◌++◌, Some, None, refl, ap, ◌∙◌, subst, arith}
use Rattle.std.specs.Prelude.{Contains, if◌then◌else◌}
use Rattle.std.proofs.lemmas.Bool.{le-leb}
use Rattle.plain_lists.specs.Lists.{Block, Lists, first_region, whole_block, lies_on}
use Rattle.plain_lists.specs.Backend.{rests, after_cut, after_put, slab_block}
use Rattle.plain_lists.specs.Good.{IsGoodBlock, slabs_on, stored_on, blocks_on, has_granule}
use Rattle.list_laws.proofs.Members.{Contains-first, Contains-other, Contains-cons}
use Rattle.list_laws.proofs.Counts.{one_if, count-cons}
use Rattle.plain_lists.proofs.Granules.{lies_on-joined}
use Rattle.plain_lists.proofs.Blocks.{AreBlocks, has, blocks_on-first, blocks_on-after_cut, after_cut_good}
use Rattle.plain_lists.proofs.Joined.{blocks_on-after_put, after_put_good}
use Rattle.plain_lists.proofs.Beside.{AreGoodBeside, at_most_once}

-- the blocks of good lists
pub blocks_good : (rooms : List ℕ) (lists : Lists) → AreGoodBeside rooms lists → AreBlocks lists.blocks
blocks_good rooms lists good = record {
  good = good.blocks_are;
  once = λ granule. let once = at_most_once rooms lists good granule in omega (arith, once);
  parted = good.parted;
}

-- the lists after a slab was cut out of a block: its room is in hand
pub block_cut : (rooms : List ℕ) (lists : Lists) (block : Block) → AreGoodBeside rooms lists → Contains lists.blocks block →
    AreGoodBeside (block.first ∷ rooms) (record lists { blocks = after_cut block lists.blocks })
block_cut rooms lists block good inside = record {
  region_is = good.region_is;
  slabs_are = good.slabs_are;
  stored_are = good.stored_are;
  blocks_are = after.good;
  rooms_are = λ index room. elim (Contains-cons block.first rooms index room) [
    | inl is ↦ subst (λ at_index. at_index % 2 ≡ 0) is (good.blocks_are block inside).even
    | inr was ↦ good.rooms_are index was
  ];
  once = λ granule.
      let once = good.once granule in
      let room = count-cons (λ other. lies_on other 2 granule) block.first rooms in
      let less = blocks_on-after_cut lists.blocks block (blocks_good rooms lists good) inside granule in
      omega (arith, once, room, less);
  parted = after.parted;
  numbers = good.numbers;
  apart = good.apart;
}
  where
    after : AreBlocks (after_cut block lists.blocks)
    after = after_cut_good lists.blocks block (blocks_good rooms lists good) inside

-- the lists after a slab's room was put: the block that it is joined with its free neighbours
pub block_put : (index : ℕ) (rooms : List ℕ) (lists : Lists) → AreGoodBeside (index ∷ rooms) lists →
    AreGoodBeside rooms (record lists { blocks = after_put (slab_block index) lists.blocks })
block_put index rooms lists good = record {
  region_is = good.region_is;
  slabs_are = good.slabs_are;
  stored_are = good.stored_are;
  blocks_are = after.good;
  rooms_are = λ other inside. good.rooms_are other (Contains-other index rooms other inside);
  once = λ granule.
      let once = good.once granule in
      let room = count-cons (λ other. lies_on other 2 granule) index rooms in
      let more = blocks_on-after_put (slab_block index) lists.blocks room_good are granule in
      omega (arith, once, room, more);
  parted = after.parted;
  numbers = good.numbers;
  apart = good.apart;
}
  where
    are : AreBlocks lists.blocks
    are = blocks_good (index ∷ rooms) lists good

    room_good : IsGoodBlock (slab_block index)
    room_good = record { even = good.rooms_are index (Contains-first index rooms); pairs = refl; some = omega arith }

    after : AreBlocks (after_put (slab_block index) lists.blocks)
    after = after_put_good (slab_block index) lists.blocks (record {
      good = room_good;
      blocks_are = are;
      once = λ granule.
          let once = at_most_once (index ∷ rooms) lists good granule in
          let room = count-cons (λ other. lies_on other 2 granule) index rooms in
          omega (arith, once, room);
    })

-- Where no region came yet there is nothing that has a granule.
pub no_granule : (rooms : List ℕ) (lists : Lists) → AreGoodBeside rooms lists → lists.region ≡ None → (granule : ℕ) →
    stored_on granule rooms + (slabs_on granule lists.slabs + (stored_on granule lists.stored + blocks_on granule lists.blocks)) ≡ 0
no_granule rooms lists good none granule = good.once granule ∙ ap (λ region. if has_granule region granule then 1 else 0) none

pub no_block : (rooms : List ℕ) (lists : Lists) → AreGoodBeside rooms lists → lists.region ≡ None → (block : Block) → Contains lists.blocks block → ⊥
no_block rooms lists good none block inside =
    let nothing = no_granule rooms lists good none block.first in
    let some = blocks_on-first lists.blocks block inside (good.blocks_are block inside) in omega (arith, nothing, some)

-- what is left of a region after its first slab was cut out
abbrev pub left_block : Block
left_block = record { first = 2; granules = 126 }

-- the granules of the region
pub region-on : (granule : ℕ) → one_if (lies_on 0 128 granule) ≡ (if has_granule (Some first_region) granule then 1 else 0)
region-on granule = ap (λ b. one_if (b && nat_lt granule 128)) (le-leb 0 granule (omega arith)) ∙ same (nat_lt granule 128)
  where
    same : (b : Bool) → one_if b ≡ (if b then 1 else 0)
    same true = refl
    same false = refl

-- the lists after a region came: its first slab's room is in hand, and what is left of it is a block
pub region_came : (rooms : List ℕ) (lists : Lists) → AreGoodBeside rooms lists → lists.region ≡ None →
    AreGoodBeside (0 ∷ rooms) (record lists { region = Some first_region; blocks = rests whole_block ++ lists.blocks })
region_came rooms lists good none = record {
  region_is = λ region is. let same = is in cc;
  slabs_are = good.slabs_are;
  stored_are = good.stored_are;
  blocks_are = λ block inside. subst IsGoodBlock (is_left block inside) (record { even = refl; pairs = refl; some = omega arith });
  rooms_are = λ index room. elim (Contains-cons 0 rooms index room) [ inl is ↦ subst (λ at_index. at_index % 2 ≡ 0) is refl | inr was ↦ good.rooms_are index was ];
  once = λ granule.
      let nothing = no_granule rooms lists good none granule in
      let room = count-cons (λ other. lies_on other 2 granule) 0 rooms in
      let first = count-cons (has granule) left_block lists.blocks in
      let parts = lies_on-joined 0 2 126 granule in
      let whole = region-on granule in
      omega (arith, nothing, room, first, parts, whole);
  parted = λ one other in_one in_other.
      subst (λ (b : Block). b.first + b.granules ≢ other.first) (is_left one in_one) (subst (λ (b : Block). 128 ≢ b.first) (is_left other in_other) (omega arith));
  numbers = good.numbers;
  apart = good.apart;
}
  where
    is_left : (block : Block) → Contains (left_block ∷ lists.blocks) block → left_block ≡ block
    is_left block inside = elim (Contains-cons left_block lists.blocks block inside) [ inl is ↦ is | inr was ↦ absurd (no_block rooms lists good none block was) ]
