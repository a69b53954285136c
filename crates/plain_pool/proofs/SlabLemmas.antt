-- What the slabs' arrays say of a slab, and what a change of one slab leaves.
use Rattle.std.proofs.Common.{◌≡◌, ℕ, ◌+◌, ◌-◌, ◌*◌, ◌/◌, ◌%◌, ◌<◌, ◌≤◌, Bool, true, false, cond, ◌&&◌, ◌==◌, nat_lt, ◌⊎◌, inl, inr, List, [], ◌∷◌, map, length, set, Some, None, refl, sym, ap, ◌∙◌, subst, arith, length-set, slice_get}
use Rattle.std.specs.Prelude.{Contains, filter, find, slice_index_or, if◌then◌else◌}
use Rattle.std.specs.declared.option.Option.{Option}
use Rattle.std.proofs.lemmas.Bool.{cases_eq, cases_lt, true≢false, and_parts, eq-eqb, ne_eqb, eqb-true, lt-ltb}
use Rattle.std.proofs.lemmas.List.{get_or-set_same, get_or-set_other}
use Rattle.std.proofs.Math.Nat.{mul-mod_left}
use Rattle.std.proofs.lemmas.Nat.{div-mul-add}
use Rattle.size_classes.specs.Classes.{class_size, class_objects}
use Rattle.size_classes.proofs.CallerLemmas.{class_size-least, class_size-past, objects-room, object_offset-eights}
use Rattle.slab_core.specs.declared.SlabRec.{SlabRec}
use Rattle.size_classes.specs.Layout.{object_offset}
use Rattle.index_lists.specs.Lists.{Lists}
use Rattle.plain_lists.specs.Lists.{OwnSlab, changed}
use Rattle.plain_lists.specs.Whole.{object_of, spot_held, spot_of, spot_in}
use Rattle.plain_lists.specs.Good.{times}
use Rattle.plain_lists.proofs.Gets.{times-same, times-other}
use Rattle.std.proofs.lemmas.Option.{slice_get_within}
use Rattle.list_laws.proofs.Members.{Contains-first, Contains-other}
use Rattle.list_laws.proofs.Finds.{find-Some, find-None}
use Rattle.plain_lists.proofs.ObjectPlaces.{object_of-Some, divides-times}
use Rattle.plain_lists.proofs.Rooms.{Some-same}
use Rattle.plain_lists.proofs.SlabLists.{Contains-changed}
use Rattle.plain_pool.specs.declared.marks.Mark.{Mark}
use Rattle.plain_pool.specs.declared.marks.Mark.TheVariants.{Blank}
use Rattle.plain_pool.specs.Marks.{number_in, link_in}
use Rattle.plain_pool.specs.Slabs.{record_of, record_in, slab_in, rooms_of, unit_at, mark_at, number_of, AreNumbers, AreLinks, SlabsFit, ArePlaced, IsKept, AreKept, IsIn}

-- the slab in a room is found there
pub slab_found : (slabs : List OwnSlab) → ArePlaced slabs → (room : ℕ) (slab : OwnSlab) → IsIn room slab slabs → slab_in room slabs ≡ Some slab
slab_found slabs placed room slab is = go (find (λ other. other.index == 2 * room) slabs) refl
  where
    go : (o : Option OwnSlab) → find (λ other. other.index == 2 * room) slabs ≡ o → slab_in room slabs ≡ Some slab
    go None e = absurd (true≢false (sym (eq-eqb slab.index (2 * room) is.at_room) ∙ find-None (λ other. other.index == 2 * room) slabs e slab is.member))
    go (Some other) e = let at = find-Some (λ other. other.index == 2 * room) slabs other e in
        e ∙ ap Some (placed.one other slab at.0 is.member (eqb-true other.index (2 * room) at.1 ∙ sym is.at_room))

-- and what is found there is in it
pub found_in : (slabs : List OwnSlab) (room : ℕ) (slab : OwnSlab) → slab_in room slabs ≡ Some slab → IsIn room slab slabs
found_in slabs room slab e = let at = find-Some (λ other. other.index == 2 * room) slabs slab e in
    record { member = at.0; at_room = eqb-true slab.index (2 * room) at.1 }

-- a slab lies in a room
pub in_room : (slabs : List OwnSlab) → ArePlaced slabs → (slab : OwnSlab) → Contains slabs slab → IsIn (slab.index / 2) slab slabs × (slab.index / 2 < 64)
in_room slabs placed slab member = let even = placed.even slab member in let inside = placed.inside slab member in
    (record { member = member; at_room = omega (arith, even) }, omega (arith, inside))

-- a class that has an object has a size
pub size_some : (class object : ℕ) → object < class_objects class → 8 ≤ class_size class
unfolding class_objects
size_some class object below = elim (cases_lt class 26) [
  | inl exists ↦ class_size-least class exists
  | inr past ↦ absurd (let none : class_objects class ≡ 0 = ap (λ n. 16256 / n) (class_size-past class past) in omega (arith, none, below))
]

-- where an object of a slab begins tells it
pub object_of-offset : (class object : ℕ) → object < class_objects class → object_of class (object_offset class object) ≡ Some object
unfolding object_of
object_of-offset class object below =
    let room = objects-room class object below in
    let least = size_some class object below in
    let some : 0 < (object + 1) * class_size class = more object (class_size class) (omega (arith, least)) in
    let bytes : 16384 - (16384 - (object + 1) * class_size class) ≡ (object + 1) * class_size class = omega (arith, room) in
    let inside : 16384 - (object + 1) * class_size class < 16384 = omega (arith, room, some) in
    go (16384 - (object + 1) * class_size class) bytes inside (omega (arith, least))
  where
    more : (n size : ℕ) → 0 < size → 0 < (n + 1) * size
    more n size some = let next : (n + 1) * size ≡ n * size + size = grind arith in omega (arith, next, some)

    times_over : (n size : ℕ) → 0 < size → n * size / size ≡ n
    times_over n size some = let none : n * size + 0 ≡ n * size = omega arith in ap (λ m. m / size) (sym none) ∙ div-mul-add n size 0 some

    go : (within : ℕ) → 16384 - within ≡ (object + 1) * class_size class → within < 16384 → 0 < class_size class →
        (if ((16384 - within) % class_size class == 0) && nat_lt within 16384 then Some ((16384 - within) / class_size class - 1) else None) ≡ Some object
    go within bytes inside some =
        rw bytes (rw (mul-mod_left (object + 1) (class_size class), times_over (object + 1) (class_size class) some, lt-ltb within 16384 inside) (ap Some (omega arith)))

-- an object begins in its slab
pub offset_below : (class object : ℕ) → object < class_objects class → object_offset class object < 16384
offset_below class object below =
    let room = objects-room class object below in
    let least = size_some class object below in
    let some : 0 < (object + 1) * class_size class = more object (class_size class) (omega (arith, least)) in omega (arith, some)
  where
    more : (n size : ℕ) → 0 < size → 0 < (n + 1) * size
    more n size some = let next : (n + 1) * size ≡ n * size + size = grind arith in omega (arith, next, some)

-- the units of a slab are those of its room
pub unit_room : (room class object : ℕ) → object < class_objects class → unit_at (2 * room) class object / 2048 ≡ room
unit_room room class object below = let w = offset_below class object below in omega (arith, w)

pub unit_below : (room class object : ℕ) → room < 64 → object < class_objects class → unit_at (2 * room) class object < 131072
unit_below room class object inside below = let w = offset_below class object below in omega (arith, inside, w)

-- the bytes of a unit, from its slab's start
pub unit_within : (room class object : ℕ) → object < class_objects class → 8 * unit_at (2 * room) class object - 8192 * (2 * room) ≡ object_offset class object
unit_within room class object below = let e = object_offset-eights class object in omega (arith, e)

-- a unit at which an object begins
pub unit_is : (room class object unit : ℕ) → unit / 2048 ≡ room → object_of class (8 * unit - 8192 * (2 * room)) ≡ Some object → unit ≡ unit_at (2 * room) class object
unit_is room class object unit at_room found = let s = object_of-Some class (8 * unit - 8192 * (2 * room)) object found in
    let e = object_offset-eights class object in let w = s.0 in omega (arith, e, w, at_room)

-- what the code computes of an object that begins there
pub record ObjectAt (class within object : ℕ) : Type 0 where
  pub below : within ≤ 16384
  pub some : 1 ≤ (16384 - within) / class_size class
  pub answer : (16384 - within) / class_size class - 1 ≡ object

pub object_at_is : (class within object : ℕ) → object_of class within ≡ Some object → ObjectAt class within object
unfolding object_of
object_at_is class within object found = go (((16384 - within) % class_size class == 0) && nat_lt within 16384) refl found (object_of-Some class within object found).1
  where
    count : (n size : ℕ) → n ≡ n / size * size → 0 < n → 1 ≤ n / size
    count n size times some = elim (cases_lt 0 (n / size)) [
      | inl more ↦ more
      | inr none ↦ absurd (let zero_is : n / size ≡ 0 = omega (arith, none) in let bytes : n / size * size ≡ 0 * size = ap (λ q. q * size) zero_is in omega (arith, bytes, times, some))
    ]

    go : (b : Bool) → (((16384 - within) % class_size class == 0) && nat_lt within 16384) ≡ b →
        (if b then Some ((16384 - within) / class_size class - 1) else None) ≡ Some object → within < 16384 → ObjectAt class within object
    go true is found below =
        let both = and_parts ((16384 - within) % class_size class == 0) (nat_lt within 16384) is in
        let times = divides-times (16384 - within) (class_size class) (eqb-true ((16384 - within) % class_size class) 0 both.0) in
        record { below = omega (arith, below); some = count (16384 - within) (class_size class) times (omega (arith, below)); answer = Some-same ((16384 - within) / class_size class - 1) object found }
    go false is found below = absurd (let no = found in cc)

-- one slab changed: it is found in its room, and the others in theirs
pub changed_here : (slabs : List OwnSlab) (room : ℕ) (slab new : OwnSlab) → slab_in room slabs ≡ Some slab → new.index ≡ 2 * room → slab_in room (changed new slabs) ≡ Some new
changed_here [] room slab new found at_room = absurd (let no = found in cc)
changed_here (one ∷ slabs) room slab new found at_room = go (cases_eq one.index (2 * room)) (λ later. changed_here slabs room slab new later at_room)
  where
    go : (one.index ≡ 2 * room) ⊎ (one.index ≡ 2 * room → ⊥) → (slab_in room slabs ≡ Some slab → slab_in room (changed new slabs) ≡ Some new) → slab_in room (changed new (one ∷ slabs)) ≡ Some new
    go (inl same) step =
        ap (λ (b : Bool). cond ((if b then new else one).index == 2 * room) (Some (if b then new else one)) (slab_in room (changed new slabs))) (eq-eqb one.index new.index (same ∙ sym at_room))
        ∙ ap (λ b. cond b (Some new) (slab_in room (changed new slabs))) (eq-eqb new.index (2 * room) at_room)
    go (inr differ) step =
        ap (λ (b : Bool). cond ((if b then new else one).index == 2 * room) (Some (if b then new else one)) (slab_in room (changed new slabs))) (ne_eqb one.index new.index (λ e. differ (e ∙ at_room)))
        ∙ ap (λ b. cond b (Some one) (slab_in room (changed new slabs))) (ne_eqb one.index (2 * room) differ)
        ∙ step (sym (ap (λ b. cond b (Some one) (slab_in room slabs)) (ne_eqb one.index (2 * room) differ)) ∙ found)

pub changed_there : (slabs : List OwnSlab) (room other : ℕ) (new : OwnSlab) → new.index ≡ 2 * room → (other ≡ room → ⊥) → slab_in other (changed new slabs) ≡ slab_in other slabs
changed_there [] room other new at_room differ = refl
changed_there (one ∷ slabs) room other new at_room differ = go (cases_eq one.index new.index) (changed_there slabs room other new at_room differ)
  where
    go : (one.index ≡ new.index) ⊎ (one.index ≡ new.index → ⊥) → slab_in other (changed new slabs) ≡ slab_in other slabs → slab_in other (changed new (one ∷ slabs)) ≡ slab_in other (one ∷ slabs)
    go (inl same) rest =
        ap (λ (b : Bool). cond ((if b then new else one).index == 2 * other) (Some (if b then new else one)) (slab_in other (changed new slabs))) (eq-eqb one.index new.index same)
        ∙ ap (λ b. cond b (Some new) (slab_in other (changed new slabs))) (ne_eqb new.index (2 * other) (λ e. differ (omega (arith, e, at_room))))
        ∙ rest ∙ sym (ap (λ b. cond b (Some one) (slab_in other slabs)) (ne_eqb one.index (2 * other) (λ e. differ (omega (arith, e, same, at_room)))))
    go (inr apart) rest =
        ap (λ (b : Bool). cond ((if b then new else one).index == 2 * other) (Some (if b then new else one)) (slab_in other (changed new slabs))) (ne_eqb one.index new.index apart)
        ∙ ap (λ o. cond (one.index == 2 * other) (Some one) o) rest

-- and its class lists stay
pub rooms_of-map : (class : ℕ) (f : OwnSlab → OwnSlab) (slabs : List OwnSlab) → ((slab : OwnSlab) → Contains slabs slab → ((f slab).class ≡ slab.class) × ((f slab).index ≡ slab.index)) → rooms_of class (map f slabs) ≡ rooms_of class slabs
rooms_of-map class f [] same = refl
rooms_of-map class f (slab ∷ slabs) same =
    go ((f slab).class == class) (slab.class == class) (ap (λ n. n == class) (same slab (Contains-first slab slabs)).0) (ap (λ n. n / 2) (same slab (Contains-first slab slabs)).1)
    (rooms_of-map class f slabs (λ other inside. same other (Contains-other slab slabs other inside)))
  where
    go : (a b : Bool) → a ≡ b → (f slab).index / 2 ≡ slab.index / 2 → rooms_of class (map f slabs) ≡ rooms_of class slabs →
        map (λ (s : OwnSlab). s.index / 2) (cond a (f slab ∷ filter (λ s. s.class == class) (map f slabs)) (filter (λ s. s.class == class) (map f slabs)))
        ≡ map (λ (s : OwnSlab). s.index / 2) (cond b (slab ∷ filter (λ s. s.class == class) slabs) (filter (λ s. s.class == class) slabs))
    go true true e room rest = ap (λ r. r ∷ rooms_of class (map f slabs)) room ∙ ap (λ rs. slab.index / 2 ∷ rs) rest
    go false false e room rest = rest
    go true false e room rest = absurd (true≢false e)
    go false true e room rest = absurd (true≢false (sym e))

pub rooms_of-changed : (class : ℕ) (slabs : List OwnSlab) (slab new : OwnSlab) → ArePlaced slabs → Contains slabs slab → new.index ≡ slab.index → new.class ≡ slab.class → rooms_of class (changed new slabs) ≡ rooms_of class slabs
rooms_of-changed class slabs slab new placed member index_is class_is = rooms_of-map class (λ other. if other.index == new.index then new else other) slabs (λ other inside. go other inside (cases_eq other.index new.index))
  where
    go : (other : OwnSlab) → Contains slabs other → (other.index ≡ new.index) ⊎ (other.index ≡ new.index → ⊥) → ((if other.index == new.index then new else other).class ≡ other.class) × ((if other.index == new.index then new else other).index ≡ other.index)
    go other inside (inl same) =
        let this : other ≡ slab = placed.one other slab inside member (same ∙ index_is) in (
          ap (λ (b : Bool). (if b then new else other).class) (eq-eqb other.index new.index same) ∙ class_is ∙ ap (λ (s : OwnSlab). s.class) (sym this),
          ap (λ (b : Bool). (if b then new else other).index) (eq-eqb other.index new.index same) ∙ index_is ∙ ap (λ (s : OwnSlab). s.index) (sym this),
        )
    go other inside (inr apart) = (ap (λ (b : Bool). (if b then new else other).class) (ne_eqb other.index new.index apart), ap (λ (b : Bool). (if b then new else other).index) (ne_eqb other.index new.index apart))

-- a slab changed at one of its objects
pub record IsChange (slab new : OwnSlab) (object : ℕ) (held : Option ℕ) : Type 0 where
  pub index_is : new.index ≡ slab.index
  pub class_is : new.class ≡ slab.class
  pub exists : object < class_objects slab.class
  pub here : slice_get new.objects object ≡ Some held
  pub there : (other : ℕ) → (other ≡ object → ⊥) → slice_get new.objects other ≡ slice_get slab.objects other

-- what is known of a number, where it is known whether an object was handed out
abbrev pub flat : Option (Option ℕ) → Option ℕ
flat (Some held) = held
flat None = None

-- the number of a spot of which this is known
pub number_at : (slab : OwnSlab) (object : ℕ) (held : Option (Option ℕ)) → number_of (spot_held slab object held) ≡ flat held
number_at slab object (Some (Some number)) = refl
number_at slab object (Some None) = refl
number_at slab object None = refl

pub numbers_changed : (marks : List Mark) (slabs : List OwnSlab) (room : ℕ) (slab new : OwnSlab) (object : ℕ) (held : Option ℕ) (mark : Mark) → length marks ≡ 131072 → AreNumbers marks slabs → ArePlaced slabs → IsIn room slab slabs → room < 64
    → IsChange slab new object held → number_in mark ≡ held → AreNumbers (set marks (unit_at slab.index slab.class object) mark) (changed new slabs)
numbers_changed marks slabs room slab new object held mark long numbers placed is inside change says unit below = go (cases_eq (unit / 2048) room)
  where
    found : slab_in room slabs ≡ Some slab
    found = slab_found slabs placed room slab is

    new_room : new.index ≡ 2 * room
    new_room = change.index_is ∙ is.at_room

    at_unit : unit_at slab.index slab.class object ≡ unit_at (2 * room) slab.class object
    at_unit = ap (λ n. unit_at n slab.class object) is.at_room

    elsewhere : (unit ≡ unit_at slab.index slab.class object → ⊥) → number_in (mark_at (set marks (unit_at slab.index slab.class object) mark) unit) ≡ number_of (spot_in (8 * unit) (slab_in (unit / 2048) slabs))
    elsewhere differ = ap number_in (get_or-set_other marks (unit_at slab.index slab.class object) unit mark Blank differ) ∙ numbers unit below

    -- the object that begins at the unit, in the room of the slab that changed
    object_here : unit / 2048 ≡ room → (o : Option ℕ) → object_of slab.class (8 * unit - 8192 * (2 * room)) ≡ o → number_in (mark_at (set marks (unit_at slab.index slab.class object) mark) unit) ≡ number_of (spot_of new o)
    object_here at_room None e =
        elsewhere (λ same. absurd (let some : ◌≡◌ {A = Option ℕ} None (Some object) = sym e ∙ ap (λ n. object_of slab.class n) (ap (λ u. 8 * u - 8192 * (2 * room)) (same ∙ at_unit) ∙ unit_within room slab.class object change.exists) ∙ object_of-offset slab.class object change.exists in cc))
        ∙ ap (λ r. number_of (spot_in (8 * unit) (slab_in r slabs))) at_room ∙ ap (λ s. number_of (spot_in (8 * unit) s)) found
        ∙ ap (λ n. number_of (spot_of slab (object_of slab.class (8 * unit - 8192 * n)))) is.at_room ∙ ap (λ o. number_of (spot_of slab o)) e
    object_here at_room (Some other) e = two (cases_eq other object)
      where
        two : (other ≡ object) ⊎ (other ≡ object → ⊥) → number_in (mark_at (set marks (unit_at slab.index slab.class object) mark) unit) ≡ number_of (spot_of new (Some other))
        two (inl same) =
            let here : unit ≡ unit_at slab.index slab.class object = unit_is room slab.class other unit at_room e ∙ ap (λ o. unit_at (2 * room) slab.class o) same ∙ sym at_unit in
            ap (λ u. number_in (mark_at (set marks (unit_at slab.index slab.class object) mark) u)) here
            ∙ ap number_in (get_or-set_same marks (unit_at slab.index slab.class object) mark Blank (let b = unit_below room slab.class object inside change.exists in omega (arith, b, at_unit, long)))
            ∙ says ∙ sym (number_at new other (slice_get new.objects other) ∙ ap flat (ap (slice_get new.objects) same ∙ change.here))
        two (inr differ) =
            elsewhere (λ same. differ (let both : Some other ≡ Some object = sym e ∙ ap (λ n. object_of slab.class n) (ap (λ u. 8 * u - 8192 * (2 * room)) (same ∙ at_unit) ∙ unit_within room slab.class object change.exists) ∙ object_of-offset slab.class object change.exists in cc))
            ∙ ap (λ r. number_of (spot_in (8 * unit) (slab_in r slabs))) at_room ∙ ap (λ s. number_of (spot_in (8 * unit) s)) found
            ∙ ap (λ n. number_of (spot_of slab (object_of slab.class (8 * unit - 8192 * n)))) is.at_room ∙ ap (λ o. number_of (spot_of slab o)) e
            ∙ number_at slab other (slice_get slab.objects other) ∙ ap flat (sym (change.there other differ)) ∙ sym (number_at new other (slice_get new.objects other))

    go : (unit / 2048 ≡ room) ⊎ (unit / 2048 ≡ room → ⊥) → number_in (mark_at (set marks (unit_at slab.index slab.class object) mark) unit) ≡ number_of (spot_in (8 * unit) (slab_in (unit / 2048) (changed new slabs)))
    go (inl at_room) =
        object_here at_room (object_of slab.class (8 * unit - 8192 * (2 * room))) refl
        ∙ sym (ap (λ r. number_of (spot_in (8 * unit) (slab_in r (changed new slabs)))) at_room ∙ ap (λ s. number_of (spot_in (8 * unit) s)) (changed_here slabs room slab new found new_room)
        ∙ ap (λ n. number_of (spot_of new (object_of new.class (8 * unit - 8192 * n)))) new_room ∙ ap (λ k. number_of (spot_of new (object_of k (8 * unit - 8192 * (2 * room))))) change.class_is)
    go (inr differ) =
        elsewhere (λ same. differ (ap (λ u. u / 2048) (same ∙ at_unit) ∙ unit_room room slab.class object change.exists))
        ∙ ap (λ s. number_of (spot_in (8 * unit) s)) (sym (changed_there slabs room (unit / 2048) new new_room differ))

-- links that another mark leaves
pub links_set : (marks : List Mark) (index class : ℕ) (private : List ℕ) (unit : ℕ) (mark : Mark) → ((object : ℕ) → 0 < times object private → unit_at index class object ≡ unit → ⊥) → AreLinks marks index class private → AreLinks (set marks unit mark) index class private
links_set marks index class [] unit mark apart links = tt
links_set marks index class (object ∷ private) unit mark apart links = (
  ap link_in (get_or-set_other marks unit (unit_at index class object) mark Blank (apart object (let t = times-same object private in omega (arith, t)))) ∙ links.0,
  links_set marks index class private unit mark (λ other some. apart other (later other some)) links.1,
)
  where
    later : (other : ℕ) → 0 < times other private → 0 < times other (object ∷ private)
    later other some = elim (cases_eq object other) [
      | inl same ↦ subst (λ o. 0 < times other (o ∷ private)) (sym same) (let t = times-same other private in omega (arith, t))
      | inr differ ↦ let t = times-other other object private differ in omega (arith, t, some)
    ]

-- a private object is one of the class
pub private_below : (slab : OwnSlab) → IsKept slab → (object : ℕ) → 0 < times object slab.private → object < class_objects slab.class
private_below slab kept object some = let below = slice_get_within slab.objects object None (kept.came_back object some) in let few = kept.few in omega (arith, below, few)

-- one object changed in a slab, and its mark
pub fit_changed : (rooms : List (Option SlabRec)) (classes : Lists) (marks : List Mark) (slabs : List OwnSlab) (room : ℕ) (slab new : OwnSlab) (object : ℕ) (held : Option ℕ) (mark : Mark) → SlabsFit rooms classes marks slabs → AreKept slabs → IsIn room slab slabs
    → IsChange slab new object held → number_in mark ≡ held → AreLinks (set marks (unit_at slab.index slab.class object) mark) slab.index slab.class new.private
    → SlabsFit (set rooms room (Some (record_of new))) classes (set marks (unit_at slab.index slab.class object) mark) (changed new slabs)
fit_changed rooms classes marks slabs room slab new object held mark fit kept is change says links = record {
  rooms_long = length-set rooms room (Some (record_of new)) ∙ fit.rooms_long;
  classes_long = fit.classes_long;
  places = fit.places;
  marks_long = length-set marks (unit_at slab.index slab.class object) mark ∙ fit.marks_long;
  listed = λ class below. fit.listed class below ∙ sym (rooms_of-changed class slabs slab new kept.placed is.member change.index_is change.class_is);
  recorded = λ other. recorded other (cases_eq other room);
  numbers = numbers_changed marks slabs room slab new object held mark fit.marks_long fit.numbers kept.placed is inside change says;
  links = λ one within. linked one (Contains-changed new slabs one within);
}
  where
    inside : room < 64
    inside = let i = kept.placed.inside slab is.member in omega (arith, i, is.at_room)

    new_room : new.index ≡ 2 * room
    new_room = change.index_is ∙ is.at_room

    recorded : (other : ℕ) → (other ≡ room) ⊎ (other ≡ room → ⊥) → slice_index_or (set rooms room (Some (record_of new))) other None ≡ record_in (slab_in other (changed new slabs))
    recorded other (inl same) = ap (λ r. slice_index_or (set rooms room (Some (record_of new))) r None) same
        ∙ get_or-set_same rooms room (Some (record_of new)) None (omega (arith, inside, fit.rooms_long))
        ∙ sym (ap (λ r. record_in (slab_in r (changed new slabs))) same ∙ ap record_in (changed_here slabs room slab new (slab_found slabs kept.placed room slab is) new_room))
    recorded other (inr differ) = get_or-set_other rooms room other (Some (record_of new)) None differ ∙ fit.recorded other ∙ ap record_in (sym (changed_there slabs room other new new_room differ))

    linked : (one : OwnSlab) → (new ≡ one) ⊎ (Contains slabs one × (one.index ≡ new.index → ⊥)) → AreLinks (set marks (unit_at slab.index slab.class object) mark) one.index one.class one.private
    linked one (inl same) = subst (λ (s : OwnSlab). AreLinks (set marks (unit_at slab.index slab.class object) mark) s.index s.class s.private) same
        (subst (λ n. AreLinks (set marks (unit_at slab.index slab.class object) mark) n new.class new.private) (sym change.index_is)
        (subst (λ n. AreLinks (set marks (unit_at slab.index slab.class object) mark) slab.index n new.private) (sym change.class_is) links))
    linked one (inr (within, differ)) = links_set marks one.index one.class one.private (unit_at slab.index slab.class object) mark
        (λ other some same. let here = in_room slabs kept.placed one within in
        differ (let r = unit_room (one.index / 2) one.class other (private_below one (kept.each one within) other some) in
        let q = unit_room room slab.class object change.exists in
        let e = here.0.at_room in
        let units : unit_at (2 * (one.index / 2)) one.class other ≡ unit_at (2 * room) slab.class object = ap (λ n. unit_at n one.class other) (sym e) ∙ same ∙ ap (λ n. unit_at n slab.class object) is.at_room in
        e ∙ ap (λ n. 2 * n) (sym r ∙ ap (λ u. u / 2048) units ∙ q) ∙ sym new_room))
        (fit.links one within)

-- no two objects of a slab begin at one unit
pub units_apart : (room class one other : ℕ) → one < class_objects class → other < class_objects class → unit_at (2 * room) class one ≡ unit_at (2 * room) class other → one ≡ other
units_apart room class one other below1 below2 same =
    let offsets : object_offset class one ≡ object_offset class other = sym (unit_within room class one below1) ∙ ap (λ u. 8 * u - 8192 * (2 * room)) same ∙ unit_within room class other below2 in
    Some-same one other (sym (object_of-offset class one below1) ∙ ap (object_of class) offsets ∙ object_of-offset class other below2)

pub slab_units_apart : (slabs : List OwnSlab) (room : ℕ) (slab : OwnSlab) → IsIn room slab slabs → (one other : ℕ) → one < class_objects slab.class → other < class_objects slab.class → unit_at slab.index slab.class one ≡ unit_at slab.index slab.class other → one ≡ other
slab_units_apart slabs room slab is one other below1 below2 same =
    units_apart room slab.class one other below1 below2 (ap (λ n. unit_at n slab.class one) (sym is.at_room) ∙ same ∙ ap (λ n. unit_at n slab.class other) is.at_room)
