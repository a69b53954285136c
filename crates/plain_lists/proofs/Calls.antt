-- Each call that is served leaves lists good.
use Rattle.std.proofs.Common.{◌≡◌, ℕ, ◌+◌, ◌<◌, ◌≤◌, ◌%◌, Bool, true, false, ◌==◌, ◌||◌, nat_lt, inl, inr, List, [], ◌∷◌, ◌++◌, length, Some, None, refl, sym, ap, subst, arith}
use Rattle.std.specs.Prelude.{Contains, find, if◌then◌else◌, unwrap_or}
use Rattle.std.specs.declared.option.Option.{Option}
use Rattle.std.proofs.lemmas.Bool.{and_parts, or_cases, eqb-true, ltb-true}
use Rattle.pool_types.specs.declared.values.Request.{Request}
use Rattle.pool_types.specs.declared.values.Request.TheVariants.{Malloc, Free, Msize, Identify}
use Rattle.size_classes.specs.Classes.{class_objects}
use Rattle.size_classes.proofs.CallerLemmas.{class_of-some}
use Rattle.plain_lists.specs.Lists.{OwnSlab, Lists, begun, has_free, next_object, given, taken_back, is_unused, changed, without}
use Rattle.plain_lists.specs.Whole.{Room, Spot, gives, begins, begins_in, malloc_from, malloc_of, class_at, room_in, frees, free_of, shelved, spot_at, whole, IsServed}
use Rattle.plain_lists.specs.Good.{AreGood, IsHeld}
use Rattle.list_laws.proofs.Members.{Contains-first}
use Rattle.list_laws.proofs.Finds.{find-Some}
use Rattle.plain_lists.proofs.Slabs.{CanGive, given-private, given-next, given_good, given_held, begun_good, begun_held, taken_back_good, taken_back_held}
use Rattle.plain_lists.proofs.SlabLists.{changed-first}
use Rattle.plain_lists.proofs.SlabChanges.{slab_changed, slab_begun, no_slab_in_room, slab_left}
use Rattle.plain_lists.proofs.StoredChanges.{stored_put, shelved_good}
use Rattle.plain_lists.proofs.Beside.{AreGoodBeside, beside_none, good_from}
use Rattle.plain_lists.proofs.Rooms.{room_good}
use Rattle.plain_lists.proofs.Spots.{spot_at-Some}

-- a slab that gives stays at its index, and of its class
pub given-index : (slab : OwnSlab) (number : ℕ) → (given slab number).index ≡ slab.index
given-index slab number = go slab.private refl
  where
    go : (private : List ℕ) → slab.private ≡ private → (given slab number).index ≡ slab.index
    go [] is = ap (λ (s : OwnSlab). s.index) (given-next slab number is)
    go (object ∷ private) is = ap (λ (s : OwnSlab). s.index) (given-private slab number object private is)

pub given-class : (slab : OwnSlab) (number : ℕ) → (given slab number).class ≡ slab.class
given-class slab number = go slab.private refl
  where
    go : (private : List ℕ) → slab.private ≡ private → (given slab number).class ≡ slab.class
    go [] is = ap (λ (s : OwnSlab). s.class) (given-next slab number is)
    go (object ∷ private) is = ap (λ (s : OwnSlab). s.class) (given-private slab number object private is)

-- the slab that is found for a class is of it, and can give
pub has_free-parts : (class : ℕ) (slab : OwnSlab) → has_free class slab ≡ true → (slab.class ≡ class) × CanGive slab
has_free-parts class slab free =
    let both = and_parts (slab.class == class) (nat_lt 0 (length slab.private) || nat_lt (length slab.objects) (class_objects class)) free in
    let same = eqb-true slab.class class both.0 in (
      same,
      elim (or_cases (nat_lt 0 (length slab.private)) (nat_lt (length slab.objects) (class_objects class)) both.1) [
        | inl some ↦ inl (ltb-true 0 (length slab.private) some)
        | inr few ↦ inr (subst (λ c. length slab.objects < class_objects c) (sym same) (ltb-true (length slab.objects) (class_objects class) few))
      ],
    )

-- a slab of the lists gives its next object
pub gives_good : (rooms : List ℕ) (lists : Lists) (slab : OwnSlab) → AreGoodBeside rooms lists → Contains lists.slabs slab → CanGive slab → AreGoodBeside rooms (gives lists slab).lists
gives_good rooms lists slab good inside can =
    slab_changed rooms lists slab (given slab (lists.granted + 1)) (next_object slab) (lists.granted + 1) good (record {
      listed = inside;
      index_is = given-index slab (lists.granted + 1);
      good = given_good slab (lists.granted + 1) (good.slabs_are slab inside) can;
      rises = omega arith;
      held = λ object number held. elim (given_held slab (lists.granted + 1) (good.slabs_are slab inside) object number held) [
        | inl was ↦ inl was
        | inr (same, is) ↦ inr (same, omega (arith, is), omega (arith, is))
      ];
    })

-- a slab begins in room that is in hand, and gives its first object
pub begins_good : (index : ℕ) (rooms : List ℕ) (lists : Lists) (class : ℕ) → AreGoodBeside (index ∷ rooms) lists → class < 26 → index % 2 ≡ 0 → AreGoodBeside rooms (begins lists class index).lists
begins_good index rooms lists class good exists even =
    subst (λ slabs. AreGoodBeside rooms (record lists { slabs = slabs; granted = lists.granted + 1 }))
    (sym (changed-first (given (begun index class) (lists.granted + 1)) (begun index class) lists.slabs refl (no_slab_in_room index rooms lists good)))
    (slab_begun index rooms lists (given (begun index class) (lists.granted + 1)) 0 (lists.granted + 1) good refl (begun_good index class (lists.granted + 1) even exists) (omega arith)
    (λ object number held. let (first, is) = begun_held index class (lists.granted + 1) object number held in (first, omega (arith, is), omega (arith, is))))

-- the class of a size that has one
pub class_at-exists : (size : ℕ) → size ≤ 8128 → class_at size < 26
class_at-exists size small =
    let (class, found, is) = class_of-some size small in
    subst (λ c. c < 26) (sym (ap (λ (c : Option ℕ). unwrap_or c 0) found)) is.exists

-- a malloc
pub begins_in_good : (lists : Lists) (class : ℕ) → AreGood lists → class < 26 → (room : Option Room) → room_in lists ≡ room → AreGood (begins_in lists class room).lists
begins_in_good lists class good exists None is = good
begins_in_good lists class good exists (Some room) is =
    let in_hand = room_good [] lists (beside_none lists good) room is in
    good_from (begins room.lists class room.index).lists (begins_good room.index [] room.lists class in_hand.good exists (in_hand.good.rooms_are room.index (Contains-first room.index [])))
    (let less = in_hand.few in let few = good.few in omega (arith, less, few))

pub malloc_good : (lists : Lists) (class : ℕ) → AreGood lists → class < 26 → AreGood (malloc_of lists class).lists
malloc_good lists class good exists = go (find (has_free class) lists.slabs) refl
  where
    go : (slab : Option OwnSlab) → find (has_free class) lists.slabs ≡ slab → AreGood (malloc_from lists class slab).lists
    go None none = begins_in_good lists class good exists (room_in lists) refl
    go (Some slab) found =
        let (inside, free) = find-Some (has_free class) lists.slabs slab found in
        good_from (gives lists slab).lists (gives_good [] lists slab (beside_none lists good) inside (has_free-parts class slab free).1) good.few

-- an object comes back to its slab, of which another one is held
pub taken_back_keeps : (rooms : List ℕ) (lists : Lists) (slab : OwnSlab) (object number : ℕ) → AreGoodBeside rooms lists → Contains lists.slabs slab → IsHeld slab object number →
    is_unused (taken_back slab object) ≡ false → AreGoodBeside rooms (record lists { slabs = changed (taken_back slab object) lists.slabs })
taken_back_keeps rooms lists slab object number good inside held used =
    slab_changed rooms lists slab (taken_back slab object) object lists.granted good (record {
      listed = inside;
      index_is = refl;
      good = taken_back_good slab object number (good.slabs_are slab inside) held used;
      rises = omega arith;
      held = λ other held_as is. inl (taken_back_held slab object number held other held_as is).0;
    })

-- a slab of which no object is held any more leaves the lists for the slab cache, which may then have one too many
pub shelves : (rooms : List ℕ) (lists : Lists) (slab : OwnSlab) → AreGoodBeside rooms lists → Contains lists.slabs slab →
    AreGoodBeside rooms (record lists { slabs = without slab.index lists.slabs; stored = lists.stored ++ slab.index ∷ [] })
shelves rooms lists slab good inside = stored_put slab.index rooms (record lists { slabs = without slab.index lists.slabs }) (slab_left rooms lists slab good inside)

-- a free
pub frees_good : (lists : Lists) (spot : Spot) → AreGood lists → Contains lists.slabs spot.slab → IsHeld spot.slab spot.object spot.number → AreGood (frees lists spot)
frees_good lists spot good inside held = go (is_unused (taken_back spot.slab spot.object)) refl
  where
    go : (b : Bool) → is_unused (taken_back spot.slab spot.object) ≡ b →
        AreGood (if b then shelved lists spot.slab.index else record lists { slabs = changed (taken_back spot.slab spot.object) lists.slabs })
    go true unused = shelved_good spot.slab.index (record lists { slabs = without spot.slab.index lists.slabs }) (slab_left [] lists spot.slab (beside_none lists good) inside) good.few
    go false used =
        good_from (record lists { slabs = changed (taken_back spot.slab spot.object) lists.slabs })
        (taken_back_keeps [] lists spot.slab spot.object spot.number (beside_none lists good) inside held used) good.few

-- a whole call
pub whole_good : (lists : Lists) (request : Request) → AreGood lists → IsServed request → AreGood (whole lists request).lists
whole_good lists (Malloc size) good served = malloc_good lists (class_at size) good (class_at-exists size served)
whole_good lists (Free None) good served = good
whole_good lists (Free (Some place)) good served = go (spot_at lists place) refl
  where
    go : (spot : Option Spot) → spot_at lists place ≡ spot → AreGood (free_of lists place spot).lists
    go None none = good
    go (Some spot) found = let at_place = spot_at-Some lists place spot found in frees_good lists spot good at_place.listed at_place.held
whole_good lists (Msize None) good served = good
whole_good lists (Msize (Some place)) good served = good
whole_good lists (Identify None) good served = good
whole_good lists (Identify (Some place)) good served = good
whole_good lists request good served = good
