-- What the calls of a pool make of its lists.
use Rattle.std.proofs.Common.{◌≡◌, ℕ, ◌+◌, ◌-◌, ◌*◌, ◌/◌, ◌%◌, ◌<◌, ◌≤◌, Bool, true, false, ◌&&◌, ◌==◌, nat_lt, ◌⊎◌, inl, inr, List, [], ◌∷◌, ◌++◌, Some, None, refl, sym, ap, ◌∙◌, subst, arith, slice_get, is_some}
use Rattle.std.specs.Prelude.{Contains, find, if◌then◌else◌, unwrap_or}
use Rattle.std.specs.declared.option.Option.{Option}
use Rattle.std.proofs.lemmas.Bool.{cases_eq, true≢false, and_parts, eq-eqb, ne_eqb, eqb-true, lt-ltb, ltb-true}
use Rattle.pool_types.specs.declared.values.Place.{Place}
use Rattle.pool_types.specs.declared.values.Region.{Region}
use Rattle.size_classes.specs.Classes.{class_objects, class_of}
use Rattle.size_classes.proofs.CallerLemmas.{class_objects-least, class_of-some, object_offset-eights}
use Rattle.size_classes.specs.Layout.{object_offset}
use Rattle.plain_lists.specs.Lists.{OwnSlab, Block, Lists, begun, has_free, whole_block, first_region, lies_on}
use Rattle.plain_lists.specs.Backend.{first_fit, rests}
use Rattle.plain_lists.specs.Whole.{Spot, Room, gives, begins_in, room_in, block_room, region_room, malloc_of, malloc_from, class_at, spot_at, spot_in}
use Rattle.plain_lists.specs.Good.{AreGood, IsGoodSlab}
use Rattle.list_laws.proofs.Members.{Contains-first, Contains-cons}
use Rattle.list_laws.proofs.Finds.{find-Some, find-nothing, find-same}
use Rattle.plain_lists.proofs.Granules.{lies_on-true, lies_on-parts}
use Rattle.plain_lists.proofs.Beside.{AreGoodBeside, beside_none}
use Rattle.plain_lists.proofs.BlockChanges.{no_block}
use Rattle.plain_lists.proofs.Fits.{even_from-good}
use Rattle.plain_lists.proofs.Rooms.{IsRoomOf as IsGoodRoom, Some-same, room_good}
use Rattle.plain_lists.proofs.SlabChanges.{no_slab_in_room}
use Rattle.plain_lists.proofs.Slabs.{cases_none}
use Rattle.plain_lists.proofs.Calls.{has_free-parts}
use Rattle.plain_lists.proofs.Spots.{spot_at-Some}
use Rattle.plain_lists.proofs.ObjectPlaces.{object_of-Some}
use Rattle.plain_lists.proofs.Within.{slab_within, room_within, one_slab}
use Rattle.plain_pool.specs.declared.arrays.PoolArrays.{PoolArrays}
use Rattle.plain_pool.specs.declared.bins.Bins.{Bins}
use Rattle.plain_pool.specs.Bins.{AreBins, IsCut}
use Rattle.plain_pool.specs.Slabs.{slab_in, room_of, IsKept, AreKept, IsIn}
use Rattle.plain_pool.specs.Pool.{Has, Stands, IsRoomOf}
use Rattle.plain_pool.proofs.BinLemmas.{fit_is_block}

-- good slabs are kept and placed
pub kept_good : (slab : OwnSlab) → IsGoodSlab slab → IsKept slab
kept_good slab good = record {
  few = good.few;
  counted = good.counted;
  came_back = λ object some. elim (cases_none (slice_get slab.objects object)) [
    | inl is ↦ is
    | inr other ↦ absurd (let none = good.unlisted object other in omega (arith, some, none))
  ];
  once = λ object. elim (cases_none (slice_get slab.objects object)) [
    | inl is ↦ let one = good.listed object is in omega (arith, one)
    | inr other ↦ let none = good.unlisted object other in omega (arith, none)
  ];
}

pub slabs_kept : (rooms : List ℕ) (lists : Lists) → AreGoodBeside rooms lists → AreKept lists.slabs
slabs_kept rooms lists good = record {
  placed = record {
    classes = λ slab member. (good.slabs_are slab member).class_is;
    even = λ slab member. (good.slabs_are slab member).even;
    inside = λ slab member. (slab_within rooms lists good slab member).1;
    one = λ slab other in_slab in_other same. one_slab rooms lists good slab other in_slab in_other same;
  };
  each = λ slab member. kept_good slab (good.slabs_are slab member);
}

pub lists_kept : (lists : Lists) → AreGood lists → AreKept lists.slabs
lists_kept lists good = slabs_kept [] lists (beside_none lists good)

-- no block without a region
pub no_blocks : (lists : Lists) → AreGood lists → lists.region ≡ None → lists.blocks ≡ []
no_blocks lists good none = go lists.blocks (λ block inside. no_block [] lists (beside_none lists good) none block inside)
  where
    go : (blocks : List Block) → ((block : Block) → Contains blocks block → ⊥) → blocks ≡ []
    go [] empty = refl
    go (block ∷ blocks) empty = absurd (empty block (Contains-first block blocks))

-- the room that a new region has
pub region_is_room : (pool : PoolArrays) (lists : Lists) (region : Option Region) → Stands pool lists → lists.region ≡ None → region ≡ Some first_region → (bins : Bins) → AreBins bins (rests whole_block)
    → IsRoomOf (record pool { region = region; bins = bins }) lists (region_room lists lists.region) (Some 0)
region_is_room pool lists region stands none came bins fit =
    subst (λ o. IsRoomOf (record pool { region = region; bins = bins }) lists (region_room lists o) (Some 0)) (sym none) (
      refl,
      record {
        region = came;
        slabs = stands.arrays.slabs;
        bins = subst (λ blocks. AreBins bins (rests whole_block ++ blocks)) (sym (no_blocks lists stands.good none)) fit;
        stored = stands.arrays.stored;
        granted = stands.arrays.granted;
      },
    )

-- the room that a block has
pub block_is_room : (pool : PoolArrays) (lists : Lists) (index : ℕ) (bins : Bins) → Stands pool lists → IsCut bins lists.blocks (first_fit lists.blocks) (Some index)
    → IsRoomOf (record pool { bins = bins }) lists (block_room lists (first_fit lists.blocks)) (Some index)
block_is_room pool lists index bins stands cut = go (first_fit lists.blocks) refl cut
  where
    go : (o : Option Block) → first_fit lists.blocks ≡ o → IsCut bins lists.blocks o (Some index) → IsRoomOf (record pool { bins = bins }) lists (block_room lists o) (Some index)
    go None e cut = absurd (let no = cut.0 in cc)
    go (Some block) e cut = (
      cut.0 ∙ ap Some (sym (even_from-good block (stands.good.blocks_are block (fit_is_block 511 1 lists.blocks block e)))),
      record { region = stands.arrays.region; slabs = stands.arrays.slabs; bins = cut.1; stored = stands.arrays.stored; granted = stands.arrays.granted },
    )

-- a room that came
pub record Came (pool : PoolArrays) (lists : Lists) (index : ℕ) : Type 0 where
  pub room : Room
  pub room_is : room_in lists ≡ Some room
  pub index_is : index ≡ room.index
  pub arrays : Has pool room.lists
  pub good : IsGoodRoom [] lists room
  pub even : index % 2 ≡ 0
  pub inside : index + 2 ≤ 128

pub room_came : (pool : PoolArrays) (lists : Lists) (index : ℕ) → AreGood lists → IsRoomOf pool lists (room_in lists) (Some index) → Came pool lists index
room_came pool lists index good is = go (room_in lists) refl is
  where
    go : (o : Option Room) → room_in lists ≡ o → IsRoomOf pool lists o (Some index) → Came pool lists index
    go None e is = absurd (let no = is.0 in cc)
    go (Some room) e is =
        let same = Some-same index room.index is.0 in
        let hand = room_good [] lists (beside_none lists good) room e in
        record {
          room = room;
          room_is = e;
          index_is = same;
          arrays = is.1;
          good = hand;
          even = subst (λ n. n % 2 ≡ 0) (sym same) (hand.good.rooms_are room.index (Contains-first room.index []));
          inside = subst (λ n. n + 2 ≤ 128) (sym same) (room_within (room.index ∷ []) room.lists hand.good room.index (Contains-first room.index [])).1;
        }

-- no slab is in the room
pub room_free : (pool : PoolArrays) (lists : Lists) (index : ℕ) → (came : Came pool lists index) → slab_in (index / 2) came.room.lists.slabs ≡ None
room_free pool lists index came = find-nothing (λ slab. slab.index == 2 * (index / 2)) came.room.lists.slabs
    (λ slab member. ne_eqb slab.index (2 * (index / 2)) (λ same. no_slab_in_room came.room.index [] came.room.lists came.good.good slab member (let e = came.even in let i = came.index_is in omega (arith, same, e, i))))

-- the slabs with one that begins there
pub begun_kept : (pool : PoolArrays) (lists : Lists) (index class : ℕ) → (came : Came pool lists index) → class < 26 → AreKept (begun (2 * (index / 2)) class ∷ came.room.lists.slabs)
begun_kept pool lists index class came exists = record {
  placed = record {
    classes = λ slab member. elim (cons slab member) [ inl same ↦ subst (λ (s : OwnSlab). s.class < 26) same exists | inr later ↦ old.placed.classes slab later ];
    even = λ slab member. elim (cons slab member) [ inl same ↦ subst (λ (s : OwnSlab). s.index % 2 ≡ 0) same (omega arith) | inr later ↦ old.placed.even slab later ];
    inside = λ slab member. elim (cons slab member) [ inl same ↦ subst (λ (s : OwnSlab). s.index + 2 ≤ 128) same (let i = came.inside in omega (arith, i)) | inr later ↦ old.placed.inside slab later ];
    one = λ slab other in_slab in_other same. two slab other (cons slab in_slab) (cons other in_other) same;
  };
  each = λ slab member. elim (cons slab member) [ inl same ↦ subst IsKept same fresh | inr later ↦ old.each slab later ];
}
  where
    old : AreKept came.room.lists.slabs
    old = slabs_kept (came.room.index ∷ []) came.room.lists came.good.good

    cons : (slab : OwnSlab) → Contains (begun (2 * (index / 2)) class ∷ came.room.lists.slabs) slab → (begun (2 * (index / 2)) class ≡ slab) ⊎ Contains came.room.lists.slabs slab
    cons slab member = Contains-cons (begun (2 * (index / 2)) class) came.room.lists.slabs slab member

    fresh : IsKept (begun (2 * (index / 2)) class)
    fresh = record { few = omega arith; counted = refl; came_back = λ object some. absurd (omega (arith, some)); once = λ object. omega arith }

    apart : (slab : OwnSlab) → Contains came.room.lists.slabs slab → 2 * (index / 2) ≡ slab.index → ⊥
    apart slab member same = no_slab_in_room came.room.index [] came.room.lists came.good.good slab member (let e = came.even in let i = came.index_is in omega (arith, same, e, i))

    two : (slab other : OwnSlab) → (begun (2 * (index / 2)) class ≡ slab) ⊎ Contains came.room.lists.slabs slab → (begun (2 * (index / 2)) class ≡ other) ⊎ Contains came.room.lists.slabs other → slab.index ≡ other.index → slab ≡ other
    two slab other (inl a) (inl b) same = sym a ∙ b
    two slab other (inl a) (inr b) same = absurd (apart other b (ap (λ (s : OwnSlab). s.index) a ∙ same))
    two slab other (inr a) (inl b) same = absurd (apart slab a (ap (λ (s : OwnSlab). s.index) b ∙ sym same))
    two slab other (inr a) (inr b) same = old.placed.one slab other a b same

pub begun_free : (index class : ℕ) → class < 26 → has_free class (begun index class) ≡ true
begun_free index class exists = ap (λ b. b && nat_lt 0 (class_objects class)) (eq-eqb class class refl) ∙ lt-ltb 0 (class_objects class) (let l = class_objects-least class exists in omega (arith, l))

pub begun_in : (index class : ℕ) (slabs : List OwnSlab) → IsIn (index / 2) (begun (2 * (index / 2)) class) (begun (2 * (index / 2)) class ∷ slabs)
begun_in index class slabs = record { member = Contains-first (begun (2 * (index / 2)) class) slabs; at_room = refl }

-- what begins is what the definition says
pub begins_is : (pool : PoolArrays) (lists : Lists) (index class : ℕ) → (came : Came pool lists index) → gives (record came.room.lists { slabs = begun (2 * (index / 2)) class ∷ came.room.lists.slabs }) (begun (2 * (index / 2)) class) ≡ begins_in lists class (room_in lists)
begins_is pool lists index class came =
    let even : 2 * (index / 2) ≡ came.room.index = let e = came.even in let i = came.index_is in omega (arith, e, i) in
    ap (λ n. gives (record came.room.lists { slabs = begun n class ∷ came.room.lists.slabs }) (begun n class)) even ∙ sym (ap (begins_in lists class) came.room_is)

-- a slab that has an object to give was found
pub record FoundFree (lists : Lists) (class room : ℕ) : Type 0 where
  pub slab : OwnSlab
  pub found : find (has_free class) lists.slabs ≡ Some slab
  pub is : IsIn room slab lists.slabs
  pub free : has_free slab.class slab ≡ true

pub found_free : (lists : Lists) (class room : ℕ) → AreGood lists → Some room ≡ room_of (find (has_free class) lists.slabs) → FoundFree lists class room
found_free lists class room good is = go (find (has_free class) lists.slabs) refl is
  where
    go : (o : Option OwnSlab) → find (has_free class) lists.slabs ≡ o → Some room ≡ room_of o → FoundFree lists class room
    go None e f = absurd (let no = f in cc)
    go (Some slab) e f =
        let at = find-Some (has_free class) lists.slabs slab e in
        let same = Some-same room (slab.index / 2) f in
        let even = (good.slabs_are slab at.0).even in
        record {
          slab = slab;
          found = e;
          is = record { member = at.0; at_room = omega (arith, same, even) };
          free = subst (λ k. has_free k slab ≡ true) (sym (has_free-parts class slab at.1).0) at.1;
        }

pub found_none_free : (lists : Lists) (class : ℕ) → None ≡ room_of (find (has_free class) lists.slabs) → find (has_free class) lists.slabs ≡ None
found_none_free lists class is = go (find (has_free class) lists.slabs) refl is
  where
    go : (o : Option OwnSlab) → find (has_free class) lists.slabs ≡ o → None ≡ room_of o → find (has_free class) lists.slabs ≡ None
    go None e f = e
    go (Some slab) e f = absurd (let no = f in cc)

pub class_is : (size class : ℕ) → Some class ≡ class_of size → class_at size ≡ class
class_is size class found = sym (ap (λ (o : Option ℕ). unwrap_or o 0) found)

pub class_exists : (size : ℕ) → size ≤ 8128 → None ≡ class_of size → ⊥
class_exists size small none = let found = class_of-some size small in let no : ◌≡◌ {A = Option ℕ} (Some found.0) None = sym found.1 ∙ sym none in cc

-- an object can begin at the place of a spot
pub spot_unit : (lists : Lists) (place : Place) (spot : Spot) → AreGood lists → spot_at lists place ≡ Some spot → ((place.pool == 0) && ((place.region == 0) && (nat_lt place.offset 1048576 && (place.offset % 8 == 0)))) ≡ true
spot_unit lists place spot good found =
    let at = spot_at-Some lists place spot found in
    let kept = lists_kept lists good in
    let inside = kept.placed.inside spot.slab at.listed in
    let on = lies_on-parts spot.slab.index 2 (place.offset / 8192) at.on_slab in
    let within = object_of-Some spot.slab.class (place.offset - 8192 * spot.slab.index) spot.object at.object_is in
    let eights = object_offset-eights spot.slab.class spot.object in
    let even = kept.placed.even spot.slab at.listed in
    all (place.pool == 0) (place.region == 0) (nat_lt place.offset 1048576) (place.offset % 8 == 0)
    (eq-eqb place.pool 0 at.pool_is) (eq-eqb place.region 0 at.region_is)
    (lt-ltb place.offset 1048576 (below place.offset spot.slab.index on.1 inside))
    (eq-eqb (place.offset % 8) 0 (unit place.offset spot.slab.index (object_offset spot.slab.class spot.object) on.0 within.0 eights))
  where
    all : (a b c d : Bool) → a ≡ true → b ≡ true → c ≡ true → d ≡ true → (a && (b && (c && d))) ≡ true
    all true true true true e f g h = refl
    all false b c d e f g h = absurd (true≢false (sym e))
    all true false c d e f g h = absurd (true≢false (sym f))
    all true true false d e f g h = absurd (true≢false (sym g))
    all true true true false e f g h = absurd (true≢false (sym h))

    below : (offset index : ℕ) → offset / 8192 < index + 2 → index + 2 ≤ 128 → offset < 1048576
    below offset index on inside = omega (arith, on, inside)

    unit : (offset index within : ℕ) → index ≤ offset / 8192 → offset - 8192 * index ≡ within → within ≡ 8 * (within / 8) → offset % 8 ≡ 0
    unit offset index within on is eights = omega (arith, on, is, eights)

pub no_unit_no_spot : (lists : Lists) (place : Place) → AreGood lists → ((place.pool == 0) && ((place.region == 0) && (nat_lt place.offset 1048576 && (place.offset % 8 == 0)))) ≡ false → spot_at lists place ≡ None
no_unit_no_spot lists place good not_unit = go (spot_at lists place) refl
  where
    go : (o : Option Spot) → spot_at lists place ≡ o → spot_at lists place ≡ None
    go None e = e
    go (Some spot) e = absurd (true≢false (sym (spot_unit lists place spot good e) ∙ not_unit))

-- what the test of a unit says
pub record UnitParts (place : Place) : Type 0 where
  pub zeros : ((place.pool == 0) && (place.region == 0)) ≡ true
  pub below : place.offset < 1048576
  pub eights : place.offset ≡ 8 * (place.offset / 8)

pub unit_parts : (place : Place) → ((place.pool == 0) && ((place.region == 0) && (nat_lt place.offset 1048576 && (place.offset % 8 == 0)))) ≡ true → UnitParts place
unit_parts place is =
    let one = and_parts (place.pool == 0) ((place.region == 0) && (nat_lt place.offset 1048576 && (place.offset % 8 == 0))) is in
    let two = and_parts (place.region == 0) (nat_lt place.offset 1048576 && (place.offset % 8 == 0)) one.1 in
    let three = and_parts (nat_lt place.offset 1048576) (place.offset % 8 == 0) two.1 in
    record {
      zeros = ap (λ b. b && (place.region == 0)) one.0 ∙ two.0;
      below = ltb-true place.offset 1048576 three.0;
      eights = let z = eqb-true (place.offset % 8) 0 three.1 in omega (arith, z);
    }

-- the spot at a unit is the one in its room
pub spot_in_room : (lists : Lists) (place : Place) → AreGood lists → UnitParts place → spot_in place.offset (slab_in (place.offset / 16384) lists.slabs) ≡ spot_at lists place
spot_in_room lists place good unit =
    ap (spot_in place.offset) (find-same (λ slab. slab.index == 2 * (place.offset / 16384)) (λ slab. lies_on slab.index 2 (place.offset / 8192)) lists.slabs
    (λ slab member. same slab.index place.offset (good.slabs_are slab member).even))
    ∙ sym (ap (λ (b : Bool). if b then spot_in place.offset (find (λ slab. lies_on slab.index 2 (place.offset / 8192)) lists.slabs) else None) unit.zeros)
  where
    same : (index offset : ℕ) → index % 2 ≡ 0 → (index == 2 * (offset / 16384)) ≡ lies_on index 2 (offset / 8192)
    same index offset even = go (cases_eq index (2 * (offset / 16384)))
      where
        on : (offset : ℕ) → (2 * (offset / 16384) ≤ offset / 8192) × (offset / 8192 < 2 * (offset / 16384) + 2)
        on offset = (omega arith, omega arith)

        off : (index offset : ℕ) → index % 2 ≡ 0 → index ≤ offset / 8192 → offset / 8192 < index + 2 → index ≡ 2 * (offset / 16384)
        off index offset even a b = omega (arith, even, a, b)

        go : (index ≡ 2 * (offset / 16384)) ⊎ (index ≡ 2 * (offset / 16384) → ⊥) → (index == 2 * (offset / 16384)) ≡ lies_on index 2 (offset / 8192)
        go (inl is) = eq-eqb index (2 * (offset / 16384)) is ∙ sym (subst (λ n. lies_on n 2 (offset / 8192) ≡ true) (sym is) (lies_on-true (2 * (offset / 16384)) 2 (offset / 8192) (on offset).0 (on offset).1))
        go (inr differ) = ne_eqb index (2 * (offset / 16384)) differ ∙ sym (two (lies_on index 2 (offset / 8192)) refl)
          where
            two : (b : Bool) → lies_on index 2 (offset / 8192) ≡ b → lies_on index 2 (offset / 8192) ≡ false
            two false e = e
            two true e = absurd (let parts = lies_on-parts index 2 (offset / 8192) e in differ (off index offset even parts.0 parts.1))

-- what is none
pub none_there : {X : Type 0} (o : Option X) → is_some o ≡ false → o ≡ None
none_there None e = refl
none_there (Some x) e = absurd (true≢false e)

-- what a malloc comes to
pub found_is : (lists : Lists) (size class : ℕ) (slab : OwnSlab) → Some class ≡ class_of size → find (has_free class) lists.slabs ≡ Some slab → gives lists slab ≡ malloc_of lists (class_at size)
found_is lists size class slab exists found = sym (ap (malloc_of lists) (class_is size class exists) ∙ ap (malloc_from lists class) found)

pub none_is : (lists : Lists) (size class : ℕ) → Some class ≡ class_of size → find (has_free class) lists.slabs ≡ None → begins_in lists class (room_in lists) ≡ malloc_of lists (class_at size)
none_is lists size class exists found = sym (ap (malloc_of lists) (class_is size class exists) ∙ ap (malloc_from lists class) found)
