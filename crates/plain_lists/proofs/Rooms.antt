-- Room for a slab: what is in hand once it was found.
use Rattle.std.proofs.Common.{◌≡◌, ℕ, ◌-◌, ◌≤◌, List, ◌∷◌, length, Some, None, refl, sym, subst, arith, length-take}
use Rattle.std.specs.declared.option.Option.{Option}
use Rattle.pool_types.specs.declared.values.Region.{Region}
use Rattle.plain_lists.specs.Lists.{Block, Lists}
use Rattle.plain_lists.specs.Backend.{first_fit, after_cut}
use Rattle.plain_lists.specs.Whole.{Room, newest, region_room, block_room, stored_room, room_in}
use Rattle.plain_lists.proofs.Fits.{first_fit-Some, even_from-good}
use Rattle.plain_lists.proofs.BlockChanges.{block_cut, region_came}
use Rattle.plain_lists.proofs.StoredChanges.{stored_newest}
use Rattle.plain_lists.proofs.Beside.{AreGoodBeside}

-- The room is in hand, and the slabs and the number of grants are as before. The slab cache has no more slabs.
pub record IsRoomOf (rooms : List ℕ) (lists : Lists) (room : Room) : Type 0 where
  pub good : AreGoodBeside (room.index ∷ rooms) room.lists
  pub slabs_same : room.lists.slabs ≡ lists.slabs
  pub granted_same : room.lists.granted ≡ lists.granted
  pub few : length room.lists.stored ≤ length lists.stored

-- two that are some are one where what they have is
pub Some-same : {X : Type 0} (x y : X) → ◌≡◌ {A = Option X} (Some x) (Some y) → x ≡ y
Some-same x y same = cc

pub region_room_good : (rooms : List ℕ) (lists : Lists) → AreGoodBeside rooms lists → (region : Option Region) → lists.region ≡ region → (room : Room) → region_room lists region ≡ Some room → IsRoomOf rooms lists room
region_room_good rooms lists good None is room found =
    subst (IsRoomOf rooms lists) (Some-same _ room found) (record { good = region_came rooms lists good is; slabs_same = refl; granted_same = refl; few = omega arith })
region_room_good rooms lists good (Some region) is room found = absurd (let e = found in cc)

pub block_room_good : (rooms : List ℕ) (lists : Lists) → AreGoodBeside rooms lists → (block : Option Block) → first_fit lists.blocks ≡ block → (room : Room) → block_room lists block ≡ Some room → IsRoomOf rooms lists room
block_room_good rooms lists good (Some block) is room found =
    let inside = (first_fit-Some lists.blocks block is).inside in
    let cut = block_cut rooms lists block good inside in
    subst (IsRoomOf rooms lists) (Some-same _ room found) (record {
      good = subst (λ index. AreGoodBeside (index ∷ rooms) (record lists { blocks = after_cut block lists.blocks })) (sym (even_from-good block (good.blocks_are block inside))) cut;
      slabs_same = refl;
      granted_same = refl;
      few = omega arith;
    })
block_room_good rooms lists good None is room found = region_room_good rooms lists good lists.region refl room found

pub stored_room_good : (rooms : List ℕ) (lists : Lists) → AreGoodBeside rooms lists → (index : Option ℕ) → newest lists.stored ≡ index → (room : Room) → stored_room lists index ≡ Some room → IsRoomOf rooms lists room
stored_room_good rooms lists good (Some index) is room found =
    subst (IsRoomOf rooms lists) (Some-same _ room found) (record {
      good = stored_newest index rooms lists good is;
      slabs_same = refl;
      granted_same = refl;
      few = let less = length-take (length lists.stored - 1) lists.stored in omega (arith, less);
    })
stored_room_good rooms lists good None is room found = block_room_good rooms lists good (first_fit lists.blocks) refl room found

-- room that was found is in hand
pub room_good : (rooms : List ℕ) (lists : Lists) → AreGoodBeside rooms lists → (room : Room) → room_in lists ≡ Some room → IsRoomOf rooms lists room
room_good rooms lists good room found = stored_room_good rooms lists good (newest lists.stored) refl room found
