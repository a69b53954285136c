-- Objects lie where the counts of earlier ones say, while nothing is freed.
use Rattle.std.proofs.Common.{◌≡◌, ℕ, ◌+◌, ◌*◌, ◌<◌, ◌≤◌, ◌%◌, false, true, inl, inr, List, [], ◌∷◌, map, length, length-append, Some, None, refl, sym, ap, ◌∙◌, subst, arith}
use Rattle.std.specs.Prelude.{All, Bool, Contains, find, if◌then◌else◌}
use Rattle.std.specs.declared.option.Option.{Option}
use Rattle.std.proofs.lemmas.Bool.{true≢false}
use Rattle.std.proofs.lemmas.List.Elements.{All-head, All-tail}
use Rattle.pool_types.specs.declared.values.Request.TheVariants.{Malloc}
use Rattle.size_classes.specs.Classes.{class_objects}
use Rattle.plain_lists.specs.Lists.{OwnSlab, Lists, no_lists, begun, has_free, next_object, given, changed}
use Rattle.plain_lists.specs.Whole.{Room, place_at, gives, begins, begins_in, malloc_from, class_at, room_in, answers_to}
use Rattle.plain_lists.specs.Counts.{count_of, is_first, slabs_in, slab_in, ArePlaced, MallocsArePlaced}
use Rattle.list_laws.proofs.Members.{Contains-cons, Contains-none}
use Rattle.list_laws.proofs.Finds.{find-Some}
use Rattle.plain_lists.proofs.Slabs.{given-next, next_object-next}
use Rattle.plain_lists.proofs.SlabLists.{Contains-changed, changed-first}
use Rattle.plain_lists.proofs.Calls.{given-index, given-class, class_at-exists}
use Rattle.plain_lists.proofs.RowRooms.{IsRow, IsNextRoom, IsRoomAfter, room_after}
use Rattle.plain_lists.proofs.ClassCounts.{IsCounted, IsGrown, left_over, first_at, later_at, slabs_in-after, has_some, found_open, none_left, counted_grown, counted_begun, none_counted}

-- What holds while nothing is freed: the slab cache and the private lists are empty, the slabs stand in a row, one block has all that
-- lies behind them, and all counts hold of the slabs.
pub record IsInRow (earlier : List ℕ) (lists : Lists) : Type 0 where
  pub none_stored : lists.stored ≡ []
  pub row : IsRow (slabs_in earlier) lists.region lists.blocks
  pub within : (slab : OwnSlab) → Contains lists.slabs slab → slab.index < 2 * slabs_in earlier
  pub none_private : (slab : OwnSlab) → Contains lists.slabs slab → slab.private ≡ []
  pub each : (class : ℕ) → class < 26 → IsCounted class earlier lists.slabs

-- the place of an object is that of the slab, the class and the number in the slab
same_place : (index other class same object number : ℕ) → index ≡ other → class ≡ same → object ≡ number → place_at index class object ≡ place_at other same number
same_place index other class same object number is_index is_class is_object = ap (λ i. place_at i class object) is_index ∙ ap (λ c. place_at other c object) is_class ∙ ap (λ o. place_at other same o) is_object

-- a slab with no private object gives one object more
given_grown : (class number : ℕ) (slabs : List OwnSlab) (slab : OwnSlab) → Contains slabs slab → slab.class ≡ class → slab.private ≡ [] → IsGrown class slabs slab (given slab number)
given_grown class number slabs slab inside is none = record {
  listed = inside;
  index_is = given-index slab number;
  was_of = is;
  is_of = given-class slab number ∙ is;
  more = ap (λ (s : OwnSlab). length s.objects) (given-next slab number none) ∙ length-append slab.objects (Some number ∷ []);
  private_is = ap (λ (s : OwnSlab). s.private) (given-next slab number none) ∙ none;
}

-- a slab of the class has an object to give: it gives it
gives_row : (earlier : List ℕ) (lists : Lists) (class : ℕ) (slab : OwnSlab) → class < 26 → IsInRow earlier lists → Contains lists.slabs slab → has_free class slab ≡ true →
    IsInRow (class ∷ earlier) (gives lists slab).lists
gives_row earlier lists class slab exists in_row inside free = record {
  none_stored = in_row.none_stored;
  row = subst (λ n. IsRow n lists.region lists.blocks) (sym as_many) in_row.row;
  within = λ one among. elim (Contains-changed (given slab (lists.granted + 1)) lists.slabs one among) [
    | inl is ↦
        let index_is = ap (λ (s : OwnSlab). s.index) (sym is) ∙ grown.index_is in
        let less = in_row.within slab inside in
        omega (arith, as_many, index_is, less)
    | inr (was, apart) ↦ let less = in_row.within one was in omega (arith, as_many, less)
  ];
  none_private = λ one among. elim (Contains-changed (given slab (lists.granted + 1)) lists.slabs one among) [
    | inl is ↦ ap (λ (s : OwnSlab). s.private) (sym is) ∙ grown.private_is
    | inr (was, apart) ↦ in_row.none_private one was
  ];
  each = λ other known. counted_grown class earlier lists.slabs slab (given slab (lists.granted + 1)) mine free grown other (in_row.each other known);
}
  where
    mine : IsCounted class earlier lists.slabs
    mine = in_row.each class exists

    grown : IsGrown class lists.slabs slab (given slab (lists.granted + 1))
    grown = given_grown class (lists.granted + 1) lists.slabs slab inside (found_open class earlier lists.slabs mine slab inside free).1 (in_row.none_private slab inside)

    as_many : slabs_in (class ∷ earlier) ≡ slabs_in earlier
    as_many = slabs_in-after class earlier false (later_at class earlier lists.slabs mine (has_some class earlier lists.slabs mine slab inside free)) ∙ (let e : slabs_in earlier + 0 ≡ slabs_in earlier = omega arith in e)

-- no slab of the class has one: a slab begins in the next room
begins_row : (earlier : List ℕ) (lists : Lists) (class : ℕ) (room : Room) → (exists : class < 26) → (in_row : IsInRow earlier lists) → (in_row.each class exists).left ≡ 0 →
    IsNextRoom (slabs_in earlier) lists room → IsInRow (class ∷ earlier) (begins room.lists class room.index).lists
begins_row earlier lists class room exists in_row none next =
    subst (λ slabs. IsInRow (class ∷ earlier) (record room.lists { slabs = slabs; granted = room.lists.granted + 1 })) (sym first) (record {
      none_stored = next.stored_same ∙ in_row.none_stored;
      row = subst (λ n. IsRow n room.lists.region room.lists.blocks) (sym one_more) next.row;
      within = λ one among. elim (Contains-cons new lists.slabs one among) [
        | inl is ↦ let index_is = ap (λ (s : OwnSlab). s.index) (sym is) ∙ next.index_is in omega (arith, index_is, one_more)
        | inr was ↦ let less = in_row.within one was in omega (arith, less, one_more)
      ];
      none_private = λ one among. elim (Contains-cons new lists.slabs one among) [
        | inl is ↦ ap (λ (s : OwnSlab). s.private) (sym is)
        | inr was ↦ in_row.none_private one was
      ];
      each = λ other known. counted_begun class earlier lists.slabs new exists mine none next.index_is refl refl in_row.within other (in_row.each other known);
    })
  where
    new : OwnSlab
    new = given (begun room.index class) (room.lists.granted + 1)

    mine : IsCounted class earlier lists.slabs
    mine = in_row.each class exists

    one_more : slabs_in (class ∷ earlier) ≡ slabs_in earlier + 1
    one_more = slabs_in-after class earlier true (first_at class earlier lists.slabs mine none)

    first : changed new (begun room.index class ∷ room.lists.slabs) ≡ new ∷ lists.slabs
    first =
        ap (λ slabs. changed new (begun room.index class ∷ slabs)) next.slabs_same
        ∙ changed-first new (begun room.index class) lists.slabs refl (λ one was same. let less = in_row.within one was in let index_is = next.index_is in omega (arith, less, same, index_is))

-- the answers of mallocs lie where the counts say
pub placed : (earlier : List ℕ) (lists : Lists) (sizes : List ℕ) → All (λ size. size ≤ 8128) sizes → IsInRow earlier lists → ArePlaced earlier sizes (answers_to lists (map Malloc sizes))
placed earlier lists [] small in_row = refl
placed earlier lists (size ∷ sizes) small in_row =
    by_found (find (has_free class) lists.slabs) refl (λ more next. placed more next sizes (All-tail (λ size. size ≤ 8128) size sizes small))
  where
    class : ℕ
    class = class_at size

    exists : class < 26
    exists = class_at-exists size (All-head (λ size. size ≤ 8128) size sizes small)

    mine : IsCounted class earlier lists.slabs
    mine = in_row.each class exists

    -- where the next object lies, if it begins a slab and if not
    counted_at : (b : Bool) → is_first class earlier ≡ b → (if is_first class earlier then slabs_in earlier else slab_in class earlier) ≡ (if b then slabs_in earlier else slab_in class earlier)
    counted_at b is = ap (λ (a : Bool). if a then slabs_in earlier else slab_in class earlier) is

    by_room : mine.left ≡ 0 → (room : Option Room) → IsRoomAfter (slabs_in earlier) lists room → ((more : List ℕ) (next : Lists) → IsInRow more next → ArePlaced more sizes (answers_to next (map Malloc sizes))) →
        ArePlaced earlier (size ∷ sizes) ((begins_in lists class room).answer ∷ answers_to (begins_in lists class room).lists (map Malloc sizes))
    by_room none (Some room) next rest = (
      same_place room.index (2 * (if is_first class earlier then slabs_in earlier else slab_in class earlier)) class class 0 (count_of class earlier % class_objects class)
          (next.index_is ∙ ap (λ n. 2 * n) (sym (counted_at true (first_at class earlier lists.slabs mine none))))
          refl
          (sym (left_over class earlier lists.slabs mine ∙ none)),
      (λ out. let below = next.below in omega (arith, below, out.1)),
      rest (class ∷ earlier) (begins room.lists class room.index).lists (begins_row earlier lists class room exists in_row none next),
    )
    by_room none None all rest = (refl, (first_at class earlier lists.slabs mine none, all), rest earlier lists in_row)

    by_found : (found : Option OwnSlab) → find (has_free class) lists.slabs ≡ found → ((more : List ℕ) (next : Lists) → IsInRow more next → ArePlaced more sizes (answers_to next (map Malloc sizes))) →
        ArePlaced earlier (size ∷ sizes) ((malloc_from lists class found).answer ∷ answers_to (malloc_from lists class found).lists (map Malloc sizes))
    by_found (Some slab) is rest =
        let (inside, free) = find-Some (has_free class) lists.slabs slab is in
        let (index_is, class_is, gave) = found_open class earlier lists.slabs mine slab inside free in
        let later = later_at class earlier lists.slabs mine (has_some class earlier lists.slabs mine slab inside free) in (
          same_place slab.index (2 * (if is_first class earlier then slabs_in earlier else slab_in class earlier)) slab.class class (next_object slab) (count_of class earlier % class_objects class)
              (index_is ∙ ap (λ n. 2 * n) (sym (counted_at false later)))
              class_is
              (next_object-next slab (in_row.none_private slab inside) ∙ gave ∙ sym (left_over class earlier lists.slabs mine)),
          (λ out. true≢false (sym out.0 ∙ later)),
          rest (class ∷ earlier) (gives lists slab).lists (gives_row earlier lists class slab exists in_row inside free),
        )
    by_found None is rest = by_room (none_left class earlier lists.slabs mine is) (room_in lists) (room_after (slabs_in earlier) lists in_row.none_stored in_row.row) rest

-- nothing was got yet
nothing_in_row : IsInRow [] no_lists
nothing_in_row = record {
  none_stored = refl;
  row = (refl, refl);
  within = λ slab inside. absurd (Contains-none slab inside);
  none_private = λ slab inside. absurd (Contains-none slab inside);
  each = none_counted;
}

pub mallocs_are_placed : MallocsArePlaced
mallocs_are_placed sizes small = placed [] no_lists sizes small nothing_in_row
