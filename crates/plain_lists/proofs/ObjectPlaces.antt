-- Where an object of a slab starts, and which object starts at a place.
use Prim.Native.Nat.{zero, suc}
use Rattle.std.proofs.Common.{◌≡◌, ℕ, ◌+◌, ◌-◌, ◌*◌, ◌/◌, ◌%◌, ◌<◌, ◌≤◌, Bool, true, false, ◌==◌, ◌&&◌, nat_lt, List, Some, None, refl, ap, ◌∙◌, arith}
use Rattle.std.specs.Prelude.{Contains, if◌then◌else◌}
use Rattle.std.proofs.lemmas.Bool.{and_parts, and_from, eq-eqb, eqb-true, lt-ltb, ltb-true}
use Rattle.std.proofs.Math.Nat.{div-add-mod, mul-mod_left, mul_comm, mul-div_cancel}
use Rattle.pool_types.specs.declared.values.Place.{Place}
use Rattle.size_classes.specs.Classes.{class_size, class_objects}
use Rattle.size_classes.proofs.CallerLemmas.{class_size-least, objects-room, bytes-next}
use Rattle.size_classes.specs.Layout.{object_offset}
use Rattle.plain_lists.specs.Lists.{OwnSlab, Lists, lies_on}
use Rattle.plain_lists.specs.Whole.{Spot, object_of, place_at, spot_held, spot_of, spot_in, spot_at}
use Rattle.plain_lists.specs.Good.{IsGoodSlab, IsHeld, slabs_on}
use Rattle.list_laws.proofs.Finds.{find-only}
use Rattle.std.proofs.lemmas.Option.{slice_get_within}
use Rattle.plain_lists.proofs.Granules.{lies_on-true, lies_on-parts}
use Rattle.plain_lists.proofs.Rooms.{Some-same}
use Rattle.plain_lists.proofs.Beside.{AreGoodBeside, at_most_once}
use Rattle.plain_lists.proofs.Spots.{IsSpotAt}

-- a number that a divisor goes into, and how often
pub divides-times : (n size : ℕ) → n % size ≡ 0 → n ≡ n / size * size
divides-times n size none = let parts = div-add-mod n size in let turned = mul_comm size (n / size) in omega (arith, parts, turned, none)

-- the object of a class that starts so many bytes into its slab starts there
pub object_of-Some : (class within object : ℕ) → object_of class within ≡ Some object → (within ≡ object_offset class object) × (within < 16384)
unfolding object_of
object_of-Some class within object found = go (((16384 - within) % class_size class == 0) && nat_lt within 16384) refl found
  where
    go : (b : Bool) → (((16384 - within) % class_size class == 0) && nat_lt within 16384) ≡ b →
        (if b then Some ((16384 - within) / class_size class - 1) else None) ≡ Some object → (within ≡ 16384 - (object + 1) * class_size class) × (within < 16384)
    go true is found =
        let both = and_parts ((16384 - within) % class_size class == 0) (nat_lt within 16384) is in
        let below = ltb-true within 16384 both.1 in
        let times = divides-times (16384 - within) (class_size class) (eqb-true ((16384 - within) % class_size class) 0 both.0) in
        let is_object = Some-same ((16384 - within) / class_size class - 1) object found in
        (starts ((16384 - within) / class_size class) times is_object below, below)
      where
        starts : (count : ℕ) → 16384 - within ≡ count * class_size class → count - 1 ≡ object → within < 16384 → within ≡ 16384 - (object + 1) * class_size class
        starts zero times is_object below = absurd (omega (arith, times, below))
        starts (suc count) times is_object below =
            let same : suc count ≡ object + 1 = omega (arith, is_object) in
            let bytes = ap (λ n. n * class_size class) same in omega (arith, times, bytes, below)
    go false is found = absurd (let e = found in cc)

-- and the other way round
pub object_of-at : (class object : ℕ) → class < 26 → object < class_objects class → object_of class (object_offset class object) ≡ Some object
unfolding object_of
object_of-at class object exists below =
    ap (λ (b : Bool). if b then Some ((16384 - (16384 - bytes)) / size - 1) else None) (and_from ((16384 - (16384 - bytes)) % size == 0) (nat_lt (16384 - bytes) 16384) whole inside)
    ∙ ap Some (ap (λ n. n / size - 1) left ∙ ap (λ n. n - 1) (mul-div_cancel (object + 1) {n = size} some) ∙ omega arith)
  where
    size : ℕ
    size = class_size class

    bytes : ℕ
    bytes = (object + 1) * size

    some : 0 < size
    some = let least = class_size-least class exists in omega (arith, least)

    left : 16384 - (16384 - bytes) ≡ bytes
    left = let room = objects-room class object below in omega (arith, room)

    whole : ((16384 - (16384 - bytes)) % size == 0) ≡ true
    whole = eq-eqb ((16384 - (16384 - bytes)) % size) 0 (ap (λ n. n % size) left ∙ mul-mod_left (object + 1) size)

    inside : nat_lt (16384 - bytes) 16384 ≡ true
    inside = lt-ltb (16384 - bytes) 16384 (let next = bytes-next object size in let more = some in omega (arith, next, more))

-- an object starts within its slab
pub object_offset-within : (class object : ℕ) → class < 26 → object_offset class object < 16384
object_offset-within class object exists = let next = bytes-next object (class_size class) in let least = class_size-least class exists in omega (arith, next, least)

-- the place of a spot is where its object starts
pub spot_place : (lists : Lists) (place : Place) (spot : Spot) → IsSpotAt lists place spot → place ≡ place_at spot.slab.index spot.slab.class spot.object
spot_place lists place spot is =
    let (starts, below) = object_of-Some spot.slab.class (place.offset - 8192 * spot.slab.index) spot.object is.object_is in
    let (from, upto) = lies_on-parts spot.slab.index 2 (place.offset / 8192) is.on_slab in
    let offset : place.offset ≡ 8192 * spot.slab.index + object_offset spot.slab.class spot.object = omega (arith, starts, from) in
    whole place.pool place.region place.offset is.pool_is is.region_is offset
  where
    whole : (pool region offset : ℕ) → pool ≡ 0 → region ≡ 0 → offset ≡ 8192 * spot.slab.index + object_offset spot.slab.class spot.object →
        ◌≡◌ {A = Place} (record { pool = pool; region = region; offset = offset }) (place_at spot.slab.index spot.slab.class spot.object)
    whole pool region offset pool_is region_is offset_is =
        ap (λ n. record { pool = n; region = region; offset = offset }) pool_is
        ∙ ap (λ n. record { pool = 0; region = n; offset = offset }) region_is
        ∙ ap (λ n. record { pool = 0; region = 0; offset = n }) offset_is

-- an object that is held is found where it starts
pub held_found : (rooms : List ℕ) (lists : Lists) → AreGoodBeside rooms lists → (slab : OwnSlab) (object number : ℕ) → Contains lists.slabs slab → IsHeld slab object number →
    spot_at lists (place_at slab.index slab.class object) ≡ Some (record { slab = slab; object = object; number = number })
held_found rooms lists good slab object number inside held =
    ap (λ found. spot_in offset found) (find-only (λ (other : OwnSlab). lies_on other.index 2 (offset / 8192)) lists.slabs slab few inside on_slab)
    ∙ ap (λ o. spot_of slab o) (ap (object_of slab.class) within ∙ object_of-at slab.class object slab_good.class_is below)
    ∙ ap (λ got. spot_held slab object got) held
  where
    slab_good : IsGoodSlab slab
    slab_good = good.slabs_are slab inside

    offset : ℕ
    offset = 8192 * slab.index + object_offset slab.class object

    below : object < class_objects slab.class
    below = let handed = slice_get_within slab.objects object (Some number) held in let most = slab_good.few in omega (arith, handed, most)

    within : offset - 8192 * slab.index ≡ object_offset slab.class object
    within = omega arith

    few : slabs_on (offset / 8192) lists.slabs ≤ 1
    few = let once = at_most_once rooms lists good (offset / 8192) in omega (arith, once)

    on_slab : lies_on slab.index 2 (offset / 8192) ≡ true
    on_slab =
        let starts = object_offset-within slab.class object slab_good.class_is in
        lies_on-true slab.index 2 (offset / 8192) (omega arith) (omega (arith, starts))
