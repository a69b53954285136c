-- What giving, taking back, beginning and leaving make of the slabs' arrays.
use Prim.Native.Nat.{zero, suc}
use Rattle.std.proofs.Common.{◌≡◌, ℕ, ◌+◌, ◌-◌, ◌*◌, ◌/◌, ◌%◌, ◌<◌, ◌≤◌, Bool, true, false, cond, not, ◌&&◌, ◌||◌, ◌==◌, nat_lt, nat_le, ◌⊎◌, inl, inr, List, [], ◌∷◌, ◌++◌, map, length, set, Some, None, refl, sym, ap, ◌∙◌, subst, arith, length-set, slice_get, slice_set, replicate, drop, eqb, length-append}
use Rattle.std.specs.Prelude.{Contains, filter, find, slice_index_or, is_some}
use Rattle.std.specs.declared.option.Option.{Option}
use Rattle.std.proofs.lemmas.Bool.Decides.{nat_tests}
use Rattle.std.proofs.lemmas.Bool.{cases_eq, cases_lt, true≢false, eqb-true, ne_eqb, eq-eqb}
use Rattle.std.proofs.lemmas.List.{get_or-set_same, get_or-set_other, get_or-replicate, get_or_past, get_or_default, length-replicate}
use Rattle.size_classes.specs.Classes.{class_objects}
use Rattle.slab_core.specs.declared.SlabRec.{SlabRec}
use Rattle.slab_core.specs.Slabs.{IsValid, IsNewest, IsBelowHead, after_take, after_free, IsUsedUp, next_object as next_of}
use Rattle.index_lists.specs.Lists.{Lists, members, with_first, without as left_out, list_without, times as listed_times, times_listed, empty_lists}
use Rattle.index_lists.specs.Lists.{AreApart}
use Rattle.index_lists.proofs.CallerLemmas.{in_one, list_of, once_in, below_in, not_first, not_behind, none_behind}
use Rattle.std.specs.List.{IsDistinct, AllByRecursion, list_any}
use Rattle.std.proofs.lemmas.Map.Steps.{length-le_from_distinct_below}
use Rattle.plain_lists.proofs.Rooms.{Some-same}
use Rattle.plain_lists.specs.Lists.{OwnSlab, begun, has_free, next_object, given, taken_back, changed, without}
use Rattle.plain_lists.specs.Whole.{object_of, spot_held, spot_of, spot_in}
use Rattle.plain_lists.specs.Good.{IsHeld, times, nones}
use Rattle.plain_lists.proofs.Gets.{times-same, times-other}
use Rattle.plain_lists.proofs.Slabs.{given-private, given-next, next_object-private, next_object-next}
use Rattle.plain_lists.proofs.Calls.{has_free-parts}
use Rattle.list_laws.proofs.Gets.{slice_get-set_same, slice_get-set_other, slice_get-end, slice_get-within}
use Rattle.std.proofs.lemmas.Option.{slice_get_within, slice_get_past}
use Rattle.list_laws.proofs.Members.{Contains-first, Contains-none, Contains-other, Contains-cons, Contains-filter, Contains-filter_from}
use Rattle.list_laws.proofs.Finds.{find-None, filter-same, find-left, find-gone, filter-twice, filter-map}
use Rattle.plain_pool.proofs.Times.{times_map, times_made}
use Rattle.plain_lists.proofs.SlabLists.{Contains-without}
use Rattle.plain_pool.specs.declared.marks.Mark.{Mark}
use Rattle.plain_pool.specs.declared.marks.Mark.TheVariants.{Blank, Granted, Link}
use Rattle.plain_pool.specs.Marks.{number_in, link_in}
use Rattle.plain_pool.specs.Slabs.{record_of, record_in, slab_in, room_of, rooms_of, unit_at, mark_at, number_of, AreNumbers, AreLinks, SlabsFit, ArePlaced, IsKept, AreKept, IsIn, IsUnheld}
use Rattle.plain_pool.proofs.SlabLemmas.{slab_found, found_in, IsChange, links_set, private_below, fit_changed, unit_below, slab_units_apart}

-- no more members of a list are none than it has
pub nones-most : (xs : List (Option ℕ)) → nones xs ≤ length xs
nones-most [] = omega arith
nones-most (Some number ∷ xs) = let rest = nones-most xs in omega (arith, rest)
nones-most (None ∷ xs) = let rest = nones-most xs in omega (arith, rest)

-- where all are none no member is a number
pub nones-all : (xs : List (Option ℕ)) (i number : ℕ) → length xs ≤ nones xs → slice_get xs i ≡ Some (Some number) → ⊥
nones-all [] i number all is = absurd (let e = is in cc)
nones-all (Some other ∷ xs) i number all is = absurd (let most = nones-most xs in omega (arith, all, most))
nones-all (None ∷ xs) zero number all is = absurd (let e = is in cc)
nones-all (None ∷ xs) (suc i) number all is = nones-all xs i number (omega (arith, all)) is

-- the record of a slab is valid
pub head_is : (private : List ℕ) (count handed : ℕ) → ((object : ℕ) → 0 < times object private → object < handed) → count + length private ≡ handed → IsNewest (slice_get private 0) count handed
head_is [] count handed below sum = omega (arith, sum)
head_is (object ∷ private) count handed below sum = (below object (let t = times-same object private in omega (arith, t)), omega (arith, sum))

pub private_handed : (slab : OwnSlab) → IsKept slab → (object : ℕ) → 0 < times object slab.private → object < length slab.objects
private_handed slab kept object some = slice_get_within slab.objects object None (kept.came_back object some)

pub record_valid : (slab : OwnSlab) → IsKept slab → IsValid (record_of slab)
record_valid slab kept = record {
  count = omega arith;
  handed = kept.few;
  head = head_is slab.private (length slab.objects - length slab.private) (length slab.objects) (private_handed slab kept) (let most = nones-most slab.objects in let all = kept.counted in omega (arith, most, all));
}

-- the private object after the head may be the second one
pub below_is : (slab : OwnSlab) → IsKept slab → IsBelowHead (record_of slab) (slice_get slab.private 1)
below_is slab kept = go slab.private refl
  where
    go : (private : List ℕ) → slab.private ≡ private → IsBelowHead (record_of slab) (slice_get slab.private 1)
    go [] is = rw is tt
    go (object ∷ private) is = rw is (head_is private (length slab.objects - suc (length private) + 1) (length slab.objects)
        (λ other some. private_handed slab kept other (subst (λ xs. 0 < times other xs) (sym is) (later other some)))
        (let most = nones-most slab.objects in let all = kept.counted in let long = ap length is in omega (arith, most, all, long)))
      where
        later : (other : ℕ) → 0 < times other private → 0 < times other (object ∷ private)
        later other some = elim (cases_eq object other) [
          | inl same ↦ subst (λ o. 0 < times other (o ∷ private)) (sym same) (let t = times-same other private in omega (arith, t))
          | inr differ ↦ let t = times-other other object private differ in omega (arith, t, some)
        ]

-- the record after a slab gave its next object, and that object
pub record_given : (slab : OwnSlab) (number : ℕ) → IsKept slab → after_take (record_of slab) (slice_get slab.private 1) ≡ record_of (given slab number)
record_given slab number kept = go slab.private refl
  where
    go : (private : List ℕ) → slab.private ≡ private → after_take (record_of slab) (slice_get slab.private 1) ≡ record_of (given slab number)
    go [] is = rw is (let long : length (slab.objects ++ Some number ∷ []) ≡ length slab.objects + 1 = length-append slab.objects (Some number ∷ []) in
        made (length slab.objects + 1) (length (slab.objects ++ Some number ∷ [])) (length slab.objects - 0 + 1) (length (slab.objects ++ Some number ∷ []) - 0) (sym long) (omega (arith, long)))
      where
        made : (handed handed2 count count2 : ℕ) → handed ≡ handed2 → count ≡ count2 → ◌≡◌ {A = SlabRec} (record { class = slab.class; index = slab.index; handed = handed; head = None; count = count }) (record { class = slab.class; index = slab.index; handed = handed2; head = None; count = count2 })
        made handed handed2 count count2 e f = ap (λ n. let r : SlabRec = record { class = slab.class; index = slab.index; handed = n; head = None; count = count } in r) e ∙ ap (λ n. let r : SlabRec = record { class = slab.class; index = slab.index; handed = handed2; head = None; count = n } in r) f
    go (object ∷ private) is = rw is (let long : length (slice_set slab.objects object (Some number)) ≡ length slab.objects = length-set slab.objects object (Some number) in
        made (length slab.objects) (length (slice_set slab.objects object (Some number))) (length slab.objects - suc (length private) + 1) (length (slice_set slab.objects object (Some number)) - length private) (sym long)
        (let most = nones-most slab.objects in let all = kept.counted in let few = ap length is in omega (arith, long, most, all, few)))
      where
        made : (handed handed2 count count2 : ℕ) → handed ≡ handed2 → count ≡ count2 → ◌≡◌ {A = SlabRec} (record { class = slab.class; index = slab.index; handed = handed; head = slice_get private 0; count = count }) (record { class = slab.class; index = slab.index; handed = handed2; head = slice_get private 0; count = count2 })
        made handed handed2 count count2 e f = ap (λ n. let r : SlabRec = record { class = slab.class; index = slab.index; handed = n; head = slice_get private 0; count = count } in r) e ∙ ap (λ n. let r : SlabRec = record { class = slab.class; index = slab.index; handed = handed2; head = slice_get private 0; count = n } in r) f

pub next_is : (slab : OwnSlab) → next_of (record_of slab) ≡ next_object slab
next_is slab = go slab.private refl
  where
    go : (private : List ℕ) → slab.private ≡ private → next_of (record_of slab) ≡ next_object slab
    go [] is = rw is refl
    go (object ∷ private) is = rw is refl

-- a slab that has an object to give is not used up
pub not_used_up : (slab : OwnSlab) → has_free slab.class slab ≡ true → IsUsedUp (record_of slab) → ⊥
not_used_up slab free used_up = go slab.private refl (has_free-parts slab.class slab free).1
  where
    go : (private : List ℕ) → slab.private ≡ private → (0 < length slab.private) ⊎ (length slab.objects < class_objects slab.class) → ⊥
    go [] is (inl some) = absurd (let none = ap length is in omega (arith, some, none))
    go private is (inr below) = absurd (let past = used_up.rest in omega (arith, below, past))
    go (object ∷ private) is (inl some) = absurd (let no : ◌≡◌ {A = Option ℕ} (Some object) None = sym (ap (λ xs. slice_get xs 0) is) ∙ used_up.private in cc)

-- what a slab gives is an object of its class, and is in no other place
pub given_change : (slab : OwnSlab) (number : ℕ) → IsKept slab → has_free slab.class slab ≡ true → IsChange slab (given slab number) (next_object slab) (Some number)
given_change slab number kept free = go slab.private refl
  where
    below_rest : slab.private ≡ [] → (0 < length slab.private) ⊎ (length slab.objects < class_objects slab.class) → length slab.objects < class_objects slab.class
    below_rest is (inl some) = absurd (let none = ap length is in omega (arith, some, none))
    below_rest is (inr below) = below

    later : (other : ℕ) → (other ≡ length slab.objects → ⊥) → slice_get (slab.objects ++ Some number ∷ []) other ≡ slice_get slab.objects other
    later other differ = elim (cases_lt other (length slab.objects)) [
      | inl below ↦ slice_get-within slab.objects (Some number ∷ []) other below
      | inr past ↦ slice_get_past (slab.objects ++ Some number ∷ []) other (let long = length-append slab.objects (Some number ∷ []) in let more = above other past differ in omega (arith, long, more)) ∙ sym (slice_get_past slab.objects other past)
    ]
      where
        above : (n : ℕ) → length slab.objects ≤ n → (n ≡ length slab.objects → ⊥) → length slab.objects < n
        above n past differ = elim (cases_lt (length slab.objects) n) [ inl more ↦ more | inr same ↦ absurd (differ (omega (arith, past, same))) ]

    go : (private : List ℕ) → slab.private ≡ private → IsChange slab (given slab number) (next_object slab) (Some number)
    go [] is = subst (λ (s : OwnSlab). IsChange slab s (next_object slab) (Some number)) (sym (given-next slab number is))
        (subst (λ o. IsChange slab (record slab { objects = slab.objects ++ Some number ∷ [] }) o (Some number)) (sym (next_object-next slab is))
        (record { index_is = refl; class_is = refl; exists = below_rest is (has_free-parts slab.class slab free).1; here = slice_get-end slab.objects (Some number); there = later }))
    go (object ∷ private) is = subst (λ (s : OwnSlab). IsChange slab s (next_object slab) (Some number)) (sym (given-private slab number object private is))
        (subst (λ o. IsChange slab (record slab { objects = slice_set slab.objects object (Some number); private = private }) o (Some number)) (sym (next_object-private slab object private is))
        (record {
          index_is = refl;
          class_is = refl;
          exists = private_below slab kept object here;
          here = slice_get-set_same slab.objects object (Some number) (private_handed slab kept object here);
          there = λ other differ. slice_get-set_other slab.objects object other (Some number) differ;
        }))
      where
        here : 0 < times object slab.private
        here = subst (λ xs. 0 < times object xs) (sym is) (let t = times-same object private in omega (arith, t))

-- the links after that
pub given_links : (marks : List Mark) (slab : OwnSlab) (number : ℕ) → IsKept slab → AreLinks marks slab.index slab.class slab.private → ((one other : ℕ) → one < class_objects slab.class → other < class_objects slab.class → unit_at slab.index slab.class one ≡ unit_at slab.index slab.class other → one ≡ other)
    → AreLinks (set marks (unit_at slab.index slab.class (next_object slab)) (Granted number)) slab.index slab.class (given slab number).private
given_links marks slab number kept links apart = go slab.private refl
  where
    go : (private : List ℕ) → slab.private ≡ private → AreLinks (set marks (unit_at slab.index slab.class (next_object slab)) (Granted number)) slab.index slab.class (given slab number).private
    go [] is = subst (λ (s : OwnSlab). AreLinks (set marks (unit_at slab.index slab.class (next_object slab)) (Granted number)) slab.index slab.class s.private) (sym (given-next slab number is)) (subst (λ xs. AreLinks (set marks (unit_at slab.index slab.class (next_object slab)) (Granted number)) slab.index slab.class xs) (sym is) tt)
    go (object ∷ private) is =
        subst (λ (s : OwnSlab). AreLinks (set marks (unit_at slab.index slab.class (next_object slab)) (Granted number)) slab.index slab.class s.private) (sym (given-private slab number object private is))
        (subst (λ o. AreLinks (set marks (unit_at slab.index slab.class o) (Granted number)) slab.index slab.class private) (sym (next_object-private slab object private is))
        (links_set marks slab.index slab.class private (unit_at slab.index slab.class object) (Granted number)
        (λ other some same. let one = apart other object (private_below slab kept other (inner other some)) (private_below slab kept object here) same in
        absurd (let o = kept.once object in let t = ap (times object) is ∙ times-same object private in let s = subst (λ n. 0 < times n private) one some in omega (arith, o, t, s)))
        (subst (λ xs. AreLinks marks slab.index slab.class xs) is links).1))
      where
        here : 0 < times object slab.private
        here = subst (λ xs. 0 < times object xs) (sym is) (let t = times-same object private in omega (arith, t))

        inner : (other : ℕ) → 0 < times other private → 0 < times other slab.private
        inner other some = subst (λ xs. 0 < times other xs) (sym is) (elim (cases_eq object other) [
          | inl same ↦ subst (λ o. 0 < times other (o ∷ private)) (sym same) (let t = times-same other private in omega (arith, t))
          | inr differ ↦ let t = times-other other object private differ in omega (arith, t, some)
        ])

-- what is read of the arrays
pub read_room : (rooms : List (Option SlabRec)) (classes : Lists) (marks : List Mark) (slabs : List OwnSlab) (room : ℕ) (slab : OwnSlab) (x : Option SlabRec) → SlabsFit rooms classes marks slabs → ArePlaced slabs → IsIn room slab slabs → x ≡ slice_index_or rooms room x → x ≡ Some (record_of slab)
read_room rooms classes marks slabs room slab x fit placed is read =
    read ∙ get_or_default rooms room x None (let i = placed.inside slab is.member in omega (arith, i, is.at_room, fit.rooms_long)) ∙ fit.recorded room ∙ ap record_in (slab_found slabs placed room slab is)

pub read_mark : (marks : List Mark) (unit : ℕ) (x : Mark) → length marks ≡ 131072 → unit < 131072 → x ≡ slice_index_or marks unit x → x ≡ mark_at marks unit
read_mark marks unit x long below read = read ∙ get_or_default marks unit x Blank (omega (arith, long, below))

-- the first private object is one, and its link names the second
pub first_private : (xs : List ℕ) (x : ℕ) → slice_get xs 0 ≡ Some x → 0 < times x xs
first_private [] x e = absurd (let no = e in cc)
first_private (y ∷ xs) x e = let same : y ≡ x = cc in subst (λ z. 0 < times x (z ∷ xs)) (sym same) (let t = times-same x xs in omega (arith, t))

pub second_link : (marks : List Mark) (index class : ℕ) (private : List ℕ) (head : ℕ) → AreLinks marks index class private → slice_get private 0 ≡ Some head → link_in (mark_at marks (unit_at index class head)) ≡ slice_get private 1
second_link marks index class [] head links e = absurd (let no = e in cc)
second_link marks index class (object ∷ private) head links e = let same : object ≡ head = cc in ap (λ o. link_in (mark_at marks (unit_at index class o))) (sym same) ∙ links.0

-- an object is given
pub give_fit : (rooms : List (Option SlabRec)) (classes : Lists) (marks : List Mark) (slabs : List OwnSlab) (room : ℕ) (slab : OwnSlab) (number : ℕ) (new : SlabRec) (unit : ℕ) → SlabsFit rooms classes marks slabs → AreKept slabs → IsIn room slab slabs → has_free slab.class slab ≡ true
    → new ≡ record_of (given slab number) → unit ≡ unit_at (2 * room) slab.class (next_object slab) → SlabsFit (set rooms room (Some new)) classes (set marks unit (Granted number)) (changed (given slab number) slabs)
give_fit rooms classes marks slabs room slab number new unit fit kept is free says at =
    subst (λ (r : SlabRec). SlabsFit (set rooms room (Some r)) classes (set marks unit (Granted number)) (changed (given slab number) slabs)) (sym says)
    (subst (λ u. SlabsFit (set rooms room (Some (record_of (given slab number)))) classes (set marks u (Granted number)) (changed (given slab number) slabs)) (sym (at ∙ ap (λ n. unit_at n slab.class (next_object slab)) (sym is.at_room)))
    (fit_changed rooms classes marks slabs room slab (given slab number) (next_object slab) (Some number) (Granted number) fit kept is
    (given_change slab number (kept.each slab is.member) free) refl
    (given_links marks slab number (kept.each slab is.member) (fit.links slab is.member) (slab_units_apart slabs room slab is))))

-- whether a slab has an object to give
pub free_is : (slab : OwnSlab) (class : ℕ) → slab.class ≡ class → (is_some (slice_get slab.private 0) || nat_lt (length slab.objects) (class_objects slab.class)) ≡ has_free class slab
free_is slab class same = go slab.private refl
  where
    here : (slab.class == class) ≡ true
    here = eq-eqb slab.class class same

    some : (n : ℕ) → nat_lt 0 (suc n) ≡ true
    some n = grind (arith, nat_tests)

    go : (private : List ℕ) → slab.private ≡ private → (is_some (slice_get slab.private 0) || nat_lt (length slab.objects) (class_objects slab.class)) ≡ has_free class slab
    go [] is = rw is (sym (ap (λ b. b && nat_lt (length slab.objects) (class_objects slab.class)) here) ∙ (let c : class_objects slab.class ≡ class_objects class = ap class_objects same in ap (λ n. (slab.class == class) && nat_lt (length slab.objects) n) c))
    go (object ∷ private) is = rw is (sym (ap (λ b. b && (nat_lt 0 (suc (length private)) || nat_lt (length slab.objects) (class_objects class))) here
        ∙ ap (λ b. b || nat_lt (length slab.objects) (class_objects class)) (some (length private))))

-- an object comes back
pub record_back : (slab : OwnSlab) (object : ℕ) → after_free (record_of slab) object ≡ record_of (taken_back slab object)
record_back slab object =
    let long : length (slice_set slab.objects object None) ≡ length slab.objects = length-set slab.objects object None in
    made (length slab.objects) (length (slice_set slab.objects object None)) (length slab.objects - length slab.private - 1) (length (slice_set slab.objects object None) - suc (length slab.private)) (sym long) (omega (arith, long))
  where
    made : (handed handed2 count count2 : ℕ) → handed ≡ handed2 → count ≡ count2 → ◌≡◌ {A = SlabRec} (record { class = slab.class; index = slab.index; handed = handed; head = Some object; count = count }) (record { class = slab.class; index = slab.index; handed = handed2; head = Some object; count = count2 })
    made handed handed2 count count2 e f = ap (λ n. let r : SlabRec = record { class = slab.class; index = slab.index; handed = n; head = Some object; count = count } in r) e ∙ ap (λ n. let r : SlabRec = record { class = slab.class; index = slab.index; handed = handed2; head = Some object; count = n } in r) f

pub some_held : (slab : OwnSlab) (object number : ℕ) → IsKept slab → IsHeld slab object number → 1 ≤ length slab.objects - length slab.private
some_held slab object number kept held = elim (cases_lt (nones slab.objects) (length slab.objects)) [
  | inl more ↦ let all = kept.counted in omega (arith, more, all)
  | inr none ↦ absurd (nones-all slab.objects object number none held)
]

pub back_change : (slab : OwnSlab) (object number : ℕ) → IsKept slab → IsHeld slab object number → IsChange slab (taken_back slab object) object None
back_change slab object number kept held = record {
  index_is = refl;
  class_is = refl;
  exists = let below = slice_get_within slab.objects object (Some number) held in let few = kept.few in omega (arith, below, few);
  here = slice_get-set_same slab.objects object None (slice_get_within slab.objects object (Some number) held);
  there = λ other differ. slice_get-set_other slab.objects object other None differ;
}

pub back_fit : (rooms : List (Option SlabRec)) (classes : Lists) (marks : List Mark) (slabs : List OwnSlab) (room : ℕ) (slab : OwnSlab) (object number : ℕ) (new : SlabRec) (unit : ℕ) (head : Option ℕ) → SlabsFit rooms classes marks slabs → AreKept slabs → IsIn room slab slabs → IsHeld slab object number
    → new ≡ record_of (taken_back slab object) → unit ≡ unit_at (2 * room) slab.class object → head ≡ slice_get slab.private 0 → SlabsFit (set rooms room (Some new)) classes (set marks unit (Link head)) (changed (taken_back slab object) slabs)
back_fit rooms classes marks slabs room slab object number new unit head fit kept is held says at first =
    subst (λ (r : SlabRec). SlabsFit (set rooms room (Some r)) classes (set marks unit (Link head)) (changed (taken_back slab object) slabs)) (sym says)
    (subst (λ u. SlabsFit (set rooms room (Some (record_of (taken_back slab object)))) classes (set marks u (Link head)) (changed (taken_back slab object) slabs)) (sym here)
    (fit_changed rooms classes marks slabs room slab (taken_back slab object) object None (Link head) fit kept is change refl links))
  where
    good : IsKept slab
    good = kept.each slab is.member

    change : IsChange slab (taken_back slab object) object None
    change = back_change slab object number good held

    here : unit ≡ unit_at slab.index slab.class object
    here = at ∙ ap (λ n. unit_at n slab.class object) (sym is.at_room)

    inside : unit_at slab.index slab.class object < length marks
    inside = let b = unit_below room slab.class object (let i = kept.placed.inside slab is.member in omega (arith, i, is.at_room)) change.exists in
        let same : unit_at slab.index slab.class object ≡ unit_at (2 * room) slab.class object = ap (λ n. unit_at n slab.class object) is.at_room in omega (arith, b, same, fit.marks_long)

    links : AreLinks (set marks (unit_at slab.index slab.class object) (Link head)) slab.index slab.class (object ∷ slab.private)
    links = (
      ap link_in (get_or-set_same marks (unit_at slab.index slab.class object) (Link head) Blank inside) ∙ first,
      links_set marks slab.index slab.class slab.private (unit_at slab.index slab.class object) (Link head)
          (λ other some same. let one = slab_units_apart slabs room slab is other object (private_below slab good other some) change.exists same in
          absurd (let both : ◌≡◌ {A = Option (Option ℕ)} (Some None) (Some (Some number)) = sym (good.came_back other some) ∙ ap (slice_get slab.objects) one ∙ held in cc))
          (fit.links slab is.member),
    )

pub unused_is : (b : Bool) (n m k : ℕ) → (b ≡ true → n ≡ 0) → (n ≡ 0 → b ≡ true) → n ≡ m - k → b ≡ nat_le m k
unused_is true n m k f g e = let z = f refl in let l : m ≤ k = omega (arith, z, e) in grind (arith, nat_tests)
unused_is false n m k f g e = elim (cases_lt k m) [
  | inl more ↦ grind (arith, nat_tests)
  | inr less ↦ absurd (true≢false (sym (g (omega (arith, e, less)))))
]

-- a slab begins
pub begin_fit : (rooms : List (Option SlabRec)) (classes : Lists) (marks : List Mark) (slabs : List OwnSlab) (room class : ℕ) (new : SlabRec) → SlabsFit rooms classes marks slabs → slab_in room slabs ≡ None → room < 64 → class < 26
    → new ≡ record_of (begun (2 * room) class) → SlabsFit (set rooms room (Some new)) (with_first classes class room) marks (begun (2 * room) class ∷ slabs)
begin_fit rooms classes marks slabs room class new fit none inside exists says = record {
  rooms_long = length-set rooms room (Some new) ∙ fit.rooms_long;
  classes_long = length-set classes.lists class (room ∷ members classes class) ∙ fit.classes_long;
  places = fit.places;
  marks_long = fit.marks_long;
  listed = λ k below. listed k below (cases_eq k class);
  recorded = λ other. recorded other (cases_eq other room);
  numbers = λ unit below. fit.numbers unit below ∙ number unit (cases_eq (unit / 2048) room);
  links = λ slab within. elim (Contains-cons (begun (2 * room) class) slabs slab within) [
    | inl same ↦ subst (λ (s : OwnSlab). AreLinks marks s.index s.class s.private) same tt
    | inr later ↦ fit.links slab later
  ];
}
  where
    half : 2 * room / 2 ≡ room
    half = omega arith

    listed : (k : ℕ) → k < 26 → (k ≡ class) ⊎ (k ≡ class → ⊥) → members (with_first classes class room) k ≡ rooms_of k (begun (2 * room) class ∷ slabs)
    listed k below (inl same) = subst (λ n. members (with_first classes class room) n ≡ rooms_of n (begun (2 * room) class ∷ slabs)) (sym same)
        (get_or-set_same classes.lists class (room ∷ members classes class) [] (omega (arith, exists, fit.classes_long))
        ∙ ap (λ xs. room ∷ xs) (fit.listed class exists) ∙ ap (λ n. n ∷ rooms_of class slabs) (sym half)
        ∙ sym (ap (λ b. map (λ (s : OwnSlab). s.index / 2) (cond b (begun (2 * room) class ∷ filter (λ s. s.class == class) slabs) (filter (λ s. s.class == class) slabs))) (eq-eqb class class refl)))
    listed k below (inr differ) = get_or-set_other classes.lists class k (room ∷ members classes class) [] differ ∙ fit.listed k below
        ∙ sym (ap (λ b. map (λ (s : OwnSlab). s.index / 2) (cond b (begun (2 * room) class ∷ filter (λ s. s.class == k) slabs) (filter (λ s. s.class == k) slabs))) (ne_eqb class k (λ e. differ (sym e))))

    recorded : (other : ℕ) → (other ≡ room) ⊎ (other ≡ room → ⊥) → slice_index_or (set rooms room (Some new)) other None ≡ record_in (slab_in other (begun (2 * room) class ∷ slabs))
    recorded other (inl same) = ap (λ r. slice_index_or (set rooms room (Some new)) r None) same ∙ get_or-set_same rooms room (Some new) None (omega (arith, inside, fit.rooms_long)) ∙ ap Some says
        ∙ sym (ap (λ r. record_in (slab_in r (begun (2 * room) class ∷ slabs))) same ∙ ap (λ b. record_in (cond b (Some (begun (2 * room) class)) (slab_in room slabs))) (eq-eqb (2 * room) (2 * room) refl))
    recorded other (inr differ) = get_or-set_other rooms room other (Some new) None differ ∙ fit.recorded other
        ∙ sym (ap (λ b. record_in (cond b (Some (begun (2 * room) class)) (slab_in other slabs))) (ne_eqb (2 * room) (2 * other) (λ e. differ (omega (arith, e)))))

    no_object : (unit : ℕ) (o : Option ℕ) → number_of (spot_of (begun (2 * room) class) o) ≡ None
    no_object unit None = refl
    no_object unit (Some object) = refl

    number : (unit : ℕ) → (unit / 2048 ≡ room) ⊎ (unit / 2048 ≡ room → ⊥) → number_of (spot_in (8 * unit) (slab_in (unit / 2048) slabs)) ≡ number_of (spot_in (8 * unit) (slab_in (unit / 2048) (begun (2 * room) class ∷ slabs)))
    number unit (inl same) = ap (λ r. number_of (spot_in (8 * unit) (slab_in r slabs))) same ∙ ap (λ o. number_of (spot_in (8 * unit) o)) none
        ∙ sym (ap (λ r. number_of (spot_in (8 * unit) (slab_in r (begun (2 * room) class ∷ slabs)))) same
        ∙ ap (λ b. number_of (spot_in (8 * unit) (cond b (Some (begun (2 * room) class)) (slab_in room slabs)))) (eq-eqb (2 * room) (2 * room) refl)
        ∙ no_object unit (object_of class (8 * unit - 8192 * (2 * room))))
    number unit (inr differ) = sym (ap (λ b. number_of (spot_in (8 * unit) (cond b (Some (begun (2 * room) class)) (slab_in (unit / 2048) slabs)))) (ne_eqb (2 * room) (2 * (unit / 2048)) (λ e. differ (omega (arith, e)))))

-- the room is in no list
pub begun_is_free : (rooms : List (Option SlabRec)) (classes : Lists) (marks : List Mark) (slabs : List OwnSlab) (room : ℕ) → SlabsFit rooms classes marks slabs → slab_in room slabs ≡ None → ArePlaced slabs → times_listed room classes.lists ≡ 0
begun_is_free rooms classes marks slabs room fit none placed = go (cases_lt 0 (times_listed room classes.lists))
  where
    go : (0 < times_listed room classes.lists) ⊎ (times_listed room classes.lists ≤ 0) → times_listed room classes.lists ≡ 0
    go (inr zero_is) = omega (arith, zero_is)
    go (inl some) =
        let (class, inside) = in_one classes room some in
        let below : class < 26 = let l = list_of classes class room inside in omega (arith, l, fit.classes_long) in
        let (slab, within, same) = times_map room (λ (s : OwnSlab). s.index / 2) (filter (λ s. s.class == class) slabs) (subst (λ xs. 0 < listed_times room xs) (fit.listed class below) inside) in
        let member = (Contains-filter (λ (s : OwnSlab). s.class == class) slabs slab within).0 in
        let even = placed.even slab member in
        absurd (true≢false (sym (eq-eqb slab.index (2 * room) (omega (arith, same, even))) ∙ find-None (λ other. other.index == 2 * room) slabs none slab member))

-- a slab is in its class's list
pub left_is_in : (rooms : List (Option SlabRec)) (classes : Lists) (marks : List Mark) (slabs : List OwnSlab) (room : ℕ) (slab : OwnSlab) → SlabsFit rooms classes marks slabs → ArePlaced slabs → IsIn room slab slabs → 0 < listed_times room (members classes slab.class)
left_is_in rooms classes marks slabs room slab fit placed is =
    let half : slab.index / 2 ≡ room = let e = is.at_room in omega (arith, e) in
    subst (λ r. 0 < listed_times r (members classes slab.class)) half
    (subst (λ xs. 0 < listed_times (slab.index / 2) xs) (sym (fit.listed slab.class (placed.classes slab is.member)))
    (times_made (λ (s : OwnSlab). s.index / 2) (filter (λ s. s.class == slab.class) slabs) slab (Contains-filter_from (λ (s : OwnSlab). s.class == slab.class) slabs slab is.member (eq-eqb slab.class slab.class refl))))

-- a slab leaves
pub leave_fit : (rooms : List (Option SlabRec)) (classes : Lists) (marks : List Mark) (slabs : List OwnSlab) (room : ℕ) (slab : OwnSlab) → SlabsFit rooms classes marks slabs → ArePlaced slabs → IsIn room slab slabs → IsUnheld slab
    → SlabsFit (set rooms room None) (left_out classes slab.class room) marks (without slab.index slabs)
leave_fit rooms classes marks slabs room slab fit placed is unheld = record {
  rooms_long = length-set rooms room None ∙ fit.rooms_long;
  classes_long = length-set classes.lists slab.class (list_without room (members classes slab.class)) ∙ fit.classes_long;
  places = fit.places;
  marks_long = fit.marks_long;
  listed = λ k below. listed k below (cases_eq k slab.class);
  recorded = λ other. recorded other (cases_eq other room);
  numbers = λ unit below. fit.numbers unit below ∙ number unit (cases_eq (unit / 2048) room);
  links = λ other within. fit.links other (Contains-without slab.index slabs other within).0;
}
  where
    inside : room < 64
    inside = let i = placed.inside slab is.member in omega (arith, i, is.at_room)

    in_list : slab.class < 26
    in_list = placed.classes slab is.member

    same_test : (other : OwnSlab) → Contains slabs other → (other.index / 2 == room) ≡ (other.index == slab.index)
    same_test other within = go (cases_eq other.index slab.index)
      where
        go : (other.index ≡ slab.index) ⊎ (other.index ≡ slab.index → ⊥) → (other.index / 2 == room) ≡ (other.index == slab.index)
        go (inl same) = eq-eqb (other.index / 2) room (let e = is.at_room in omega (arith, same, e)) ∙ sym (eq-eqb other.index slab.index same)
        go (inr differ) = ne_eqb (other.index / 2) room (λ half. differ (let e = is.at_room in let even = placed.even other within in omega (arith, half, e, even))) ∙ sym (ne_eqb other.index slab.index differ)

    swapped : (a b c : Bool) → b ≡ c → (a && not b) ≡ (not c && a)
    swapped true true true e = refl
    swapped true false false e = refl
    swapped false true true e = refl
    swapped false false false e = refl
    swapped a true false e = absurd (true≢false e)
    swapped a false true e = absurd (true≢false (sym e))

    kept_test : (k : ℕ) → (k ≡ slab.class → ⊥) → (other : OwnSlab) → Contains slabs other → (not (other.index == slab.index) && (other.class == k)) ≡ (other.class == k)
    kept_test k differ other within = go (cases_eq other.index slab.index)
      where
        one_false : (a b : Bool) → a ≡ false → (not a && b) ≡ b
        one_false false b e = refl
        one_false true b e = absurd (true≢false e)

        other_false : (a b : Bool) → b ≡ false → (not a && b) ≡ b
        other_false a true e = absurd (true≢false e)
        other_false true false e = refl
        other_false false false e = refl

        go : (other.index ≡ slab.index) ⊎ (other.index ≡ slab.index → ⊥) → (not (other.index == slab.index) && (other.class == k)) ≡ (other.class == k)
        go (inl same) = other_false (other.index == slab.index) (other.class == k) (ne_eqb other.class k (λ e. differ (sym e ∙ ap (λ (s : OwnSlab). s.class) (placed.one other slab within is.member same))))
        go (inr apart) = one_false (other.index == slab.index) (other.class == k) (ne_eqb other.index slab.index apart)

    listed : (k : ℕ) → k < 26 → (k ≡ slab.class) ⊎ (k ≡ slab.class → ⊥) → members (left_out classes slab.class room) k ≡ rooms_of k (without slab.index slabs)
    listed k below (inl same) = subst (λ n. members (left_out classes slab.class room) n ≡ rooms_of n (without slab.index slabs)) (sym same)
        (get_or-set_same classes.lists slab.class (list_without room (members classes slab.class)) [] (omega (arith, in_list, fit.classes_long))
        ∙ ap (list_without room) (fit.listed slab.class in_list)
        ∙ filter-map (λ (s : OwnSlab). s.index / 2) (λ other. not (other == room)) (filter (λ s. s.class == slab.class) slabs)
        ∙ ap (map (λ (s : OwnSlab). s.index / 2)) (filter-twice (λ s. not (s.index / 2 == room)) (λ s. s.class == slab.class) slabs
        ∙ filter-same (λ s. (s.class == slab.class) && not (s.index / 2 == room)) (λ s. not (s.index == slab.index) && (s.class == slab.class)) slabs (λ other within. swapped (other.class == slab.class) (other.index / 2 == room) (other.index == slab.index) (same_test other within))
        ∙ sym (filter-twice (λ s. s.class == slab.class) (λ s. not (s.index == slab.index)) slabs)))
    listed k below (inr differ) = get_or-set_other classes.lists slab.class k (list_without room (members classes slab.class)) [] differ ∙ fit.listed k below
        ∙ ap (map (λ (s : OwnSlab). s.index / 2)) (sym (filter-twice (λ s. s.class == k) (λ s. not (s.index == slab.index)) slabs
        ∙ filter-same (λ s. not (s.index == slab.index) && (s.class == k)) (λ s. s.class == k) slabs (kept_test k differ)))

    gone : slab_in room (without slab.index slabs) ≡ None
    gone = find-gone (λ s. s.index == 2 * room) (λ s. not (s.index == slab.index)) slabs (λ other within passes. ap not (eq-eqb other.index slab.index (eqb-true other.index (2 * room) passes ∙ sym is.at_room)))

    left : (other : ℕ) → (other ≡ room → ⊥) → slab_in other (without slab.index slabs) ≡ slab_in other slabs
    left other differ = find-left (λ s. s.index == 2 * other) (λ s. not (s.index == slab.index)) slabs (λ one within passes. ap not (ne_eqb one.index slab.index (λ e. differ (let f = eqb-true one.index (2 * other) passes in let g = is.at_room in omega (arith, e, f, g)))))

    recorded : (other : ℕ) → (other ≡ room) ⊎ (other ≡ room → ⊥) → slice_index_or (set rooms room None) other None ≡ record_in (slab_in other (without slab.index slabs))
    recorded other (inl same) = ap (λ r. slice_index_or (set rooms room None) r None) same ∙ get_or-set_same rooms room None None (omega (arith, inside, fit.rooms_long))
        ∙ sym (ap (λ r. record_in (slab_in r (without slab.index slabs))) same ∙ ap record_in gone)
    recorded other (inr differ) = get_or-set_other rooms room other None None differ ∙ fit.recorded other ∙ ap record_in (sym (left other differ))

    no_number : (o : Option ℕ) → number_of (spot_of slab o) ≡ None
    no_number None = refl
    no_number (Some object) = none (slice_get slab.objects object) refl
      where
        none : (held : Option (Option ℕ)) → slice_get slab.objects object ≡ held → number_of (spot_held slab object held) ≡ None
        none None e = refl
        none (Some None) e = refl
        none (Some (Some number)) e = absurd (unheld object number e)

    number : (unit : ℕ) → (unit / 2048 ≡ room) ⊎ (unit / 2048 ≡ room → ⊥) → number_of (spot_in (8 * unit) (slab_in (unit / 2048) slabs)) ≡ number_of (spot_in (8 * unit) (slab_in (unit / 2048) (without slab.index slabs)))
    number unit (inl same) = ap (λ r. number_of (spot_in (8 * unit) (slab_in r slabs))) same ∙ ap (λ o. number_of (spot_in (8 * unit) o)) (slab_found slabs placed room slab is)
        ∙ no_number (object_of slab.class (8 * unit - 8192 * slab.index))
        ∙ sym (ap (λ r. number_of (spot_in (8 * unit) (slab_in r (without slab.index slabs)))) same ∙ ap (λ o. number_of (spot_in (8 * unit) o)) gone)
    number unit (inr differ) = ap (λ o. number_of (spot_in (8 * unit) o)) (sym (left (unit / 2048) differ))

-- the object that is held at an offset
pub record Spotted (slabs : List OwnSlab) (room offset : ℕ) : Type 0 where
  pub slab : OwnSlab
  pub object : ℕ
  pub number : ℕ
  pub found : slab_in room slabs ≡ Some slab
  pub at_object : object_of slab.class (offset - 8192 * slab.index) ≡ Some object
  pub spot : spot_in offset (slab_in room slabs) ≡ Some (record { slab = slab; object = object; number = number })

pub spotted : (slabs : List OwnSlab) (room offset number : ℕ) → number_of (spot_in offset (slab_in room slabs)) ≡ Some number → Spotted slabs room offset
spotted slabs room offset number is = go (slab_in room slabs) refl
  where
    go : (o : Option OwnSlab) → slab_in room slabs ≡ o → Spotted slabs room offset
    go None e = absurd (let no : ◌≡◌ {A = Option ℕ} None (Some number) = sym (ap (λ o. number_of (spot_in offset o)) e) ∙ is in cc)
    go (Some slab) e = two (object_of slab.class (offset - 8192 * slab.index)) refl
      where
        two : (o : Option ℕ) → object_of slab.class (offset - 8192 * slab.index) ≡ o → Spotted slabs room offset
        two None f = absurd (let no : ◌≡◌ {A = Option ℕ} None (Some number) = sym (ap (λ o. number_of (spot_in offset o)) e ∙ ap (λ o. number_of (spot_of slab o)) f) ∙ is in cc)
        two (Some object) f = three (slice_get slab.objects object) refl
          where
            three : (held : Option (Option ℕ)) → slice_get slab.objects object ≡ held → Spotted slabs room offset
            three None g = absurd (let no : ◌≡◌ {A = Option ℕ} None (Some number) = sym (ap (λ o. number_of (spot_in offset o)) e ∙ ap (λ o. number_of (spot_of slab o)) f ∙ ap (λ h. number_of (spot_held slab object h)) g) ∙ is in cc)
            three (Some None) g = absurd (let no : ◌≡◌ {A = Option ℕ} None (Some number) = sym (ap (λ o. number_of (spot_in offset o)) e ∙ ap (λ o. number_of (spot_of slab o)) f ∙ ap (λ h. number_of (spot_held slab object h)) g) ∙ is in cc)
            three (Some (Some other)) g = record {
              slab = slab;
              object = object;
              number = other;
              found = e;
              at_object = f;
              spot = ap (λ o. spot_in offset o) e ∙ ap (λ o. spot_of slab o) f ∙ ap (λ h. spot_held slab object h) g;
            }

-- the mark of a unit tells the number at its offset
pub number_there : (marks : List Mark) (slabs : List OwnSlab) (offset : ℕ) (x : Mark) → length marks ≡ 131072 → AreNumbers marks slabs → offset < 1048576 → offset ≡ 8 * (offset / 8) → x ≡ slice_index_or marks (offset / 8) x
    → number_in x ≡ number_of (spot_in offset (slab_in (offset / 16384) slabs))
number_there marks slabs offset x long numbers below unit read =
    let inside : offset / 8 < 131072 = omega (arith, below) in
    let room : offset / 8 / 2048 ≡ offset / 16384 = omega arith in
    ap number_in (read_mark marks (offset / 8) x long inside read) ∙ numbers (offset / 8) inside
    ∙ ap (λ n. number_of (spot_in n (slab_in (offset / 8 / 2048) slabs))) (sym unit) ∙ ap (λ r. number_of (spot_in offset (slab_in r slabs))) room

-- the bytes of an offset within its slab
pub within_slab : (slabs : List OwnSlab) (offset : ℕ) (slab : OwnSlab) → slab_in (offset / 16384) slabs ≡ Some slab → offset - 8192 * slab.index ≡ offset % 16384
within_slab slabs offset slab found = let e = (found_in slabs (offset / 16384) slab found).at_room in omega (arith, e)

-- the arrays of no slab
pub slabs_empty : (count lists places units : ℕ) (rooms : List (Option SlabRec)) (classes : Lists) (marks : List Mark) → count ≡ 64 → lists ≡ 26 → places ≡ 64 → units ≡ 131072 → rooms ≡ replicate count None → classes ≡ empty_lists lists places → marks ≡ replicate units Blank → SlabsFit rooms classes marks []
slabs_empty count lists places units rooms classes marks a b d e f g h = record {
  rooms_long = ap length f ∙ length-replicate count None ∙ a;
  classes_long = ap (λ (all : Lists). length all.lists) g ∙ length-replicate lists [] ∙ b;
  places = ap (λ (all : Lists). all.indices) g ∙ d;
  marks_long = ap length h ∙ length-replicate units Blank ∙ e;
  listed = λ k below. ap (λ (all : Lists). members all k) g ∙ get_or-replicate lists k [] [] (omega (arith, below, b));
  recorded = λ room. ap (λ xs. slice_index_or xs room None) f ∙ nothing count room (cases_lt room count);
  numbers = λ unit below. ap (λ xs. number_in (mark_at xs unit)) h ∙ ap number_in (get_or-replicate units unit Blank Blank (omega (arith, below, e)));
  links = λ slab inside. absurd (Contains-none slab inside);
}
  where
    nothing : (n k : ℕ) → (k < n) ⊎ (n ≤ k) → ◌≡◌ {A = Option SlabRec} (slice_index_or (replicate n None) k None) None
    nothing n k (inl below) = get_or-replicate n k None None below
    nothing n k (inr above) = get_or_past (replicate n None) k None (let nothing : Option SlabRec = None in let l = length-replicate n nothing in omega (arith, l, above))

-- the search for a slab that has an object to give goes through those of the class
pub search_class : (class : ℕ) (slabs : List OwnSlab) → find (has_free class) (filter (λ slab. slab.class == class) slabs) ≡ find (has_free class) slabs
search_class class slabs = find-left (has_free class) (λ slab. slab.class == class) slabs (λ slab inside passes. both (slab.class == class) (nat_lt 0 (length slab.private) || nat_lt (length slab.objects) (class_objects class)) passes)
  where
    both : (a b : Bool) → (a && b) ≡ true → a ≡ true
    both true b e = refl
    both false b e = e

-- what stands at a place of it
pub own_at : (own : List OwnSlab) (place room : ℕ) → slice_get (map (λ (s : OwnSlab). s.index / 2) own) place ≡ Some room → (slab : OwnSlab) × Contains own slab × (slab.index / 2 ≡ room) × (drop place own ≡ slab ∷ drop (suc place) own)
own_at [] place room is = absurd (let no = is in cc)
own_at (slab ∷ own) zero room is = (slab, Contains-first slab own, Some-same (slab.index / 2) room is, refl)
own_at (slab ∷ own) (suc place) room is = let (other, inside, half, rest) = own_at own place room is in (other, Contains-other slab own other inside, half, rest)

pub own_past : (own : List OwnSlab) (place : ℕ) → slice_get (map (λ (s : OwnSlab). s.index / 2) own) place ≡ None → drop place own ≡ []
own_past [] zero is = refl
own_past [] (suc place) is = refl
own_past (slab ∷ own) zero is = absurd (let no = is in cc)
own_past (slab ∷ own) (suc place) is = own_past own place is

-- no more indices stand in a list than there are
pub few_members : (all : Lists) (list : ℕ) → AreApart all → length (members all list) ≤ all.indices
unfolding IsDistinct
few_members all list apart = length-le_from_distinct_below (members all list) all.indices (distinct (members all list) (once_in all apart list)) (λ u h. below_in all apart list u (stands u (members all list) h))
  where
    apart_from_all : (x : ℕ) (xs : List ℕ) → listed_times x xs ≡ 0 → AllByRecursion (λ y. eqb x y ≡ false) xs
    apart_from_all x [] none = tt
    apart_from_all x (y ∷ ys) none = (ne_eqb x y (λ same. not_first y x ys none (sym same)), apart_from_all x ys (not_behind y x ys none))

    distinct : (xs : List ℕ) → ((u : ℕ) → listed_times u xs ≤ 1) → IsDistinct eqb xs
    distinct [] once = tt
    distinct (x ∷ xs) once = (apart_from_all x xs (none_behind x xs (once x)), distinct xs (λ u. let o = once u in omega arith))

    stands : (u : ℕ) (xs : List ℕ) → list_any (eqb u) xs ≡ true → 0 < listed_times u xs
    stands u [] e = absurd (cc)
    stands u (x ∷ xs) e = go (eqb u x) refl (λ later. stands u xs later)
      where
        go : (b : Bool) → eqb u x ≡ b → (list_any (eqb u) xs ≡ true → 0 < listed_times u xs) → 0 < listed_times u (x ∷ xs)
        go true is step = let same = eqb-true u x is in grind (arith, nat_tests)
        go false is step = let more = step (sym (ap (λ b. b || list_any (eqb u) xs) is) ∙ e) in omega (arith, more)

pub drop_past : (own : List OwnSlab) (place : ℕ) → length own ≤ place → drop place own ≡ []
drop_past [] zero past = refl
drop_past [] (suc place) past = refl
drop_past (slab ∷ own) zero past = absurd (omega arith)
drop_past (slab ∷ own) (suc place) past = drop_past own place (omega (arith, past))

-- the slab at a place of the search
pub record Searched (slabs : List OwnSlab) (class place room : ℕ) : Type 0 where
  pub slab : OwnSlab
  pub is : IsIn room slab slabs
  pub class_is : slab.class ≡ class
  pub behind : drop place (filter (λ (s : OwnSlab). s.class == class) slabs) ≡ slab ∷ drop (place + 1) (filter (λ (s : OwnSlab). s.class == class) slabs)

pub searched : (slabs : List OwnSlab) (class place room : ℕ) → ArePlaced slabs → slice_get (rooms_of class slabs) place ≡ Some room → Searched slabs class place room
searched slabs class place room placed is =
    let (slab, inside, half, rest) = own_at (filter (λ (s : OwnSlab). s.class == class) slabs) place room is in
    let at = Contains-filter (λ (s : OwnSlab). s.class == class) slabs slab inside in
    let even = placed.even slab at.0 in
    record {
      slab = slab;
      is = record { member = at.0; at_room = omega (arith, half, even) };
      class_is = eqb-true slab.class class at.1;
      behind = let next : suc place ≡ place + 1 = omega arith in rest ∙ ap (λ n. slab ∷ drop n (filter (λ (s : OwnSlab). s.class == class) slabs)) next;
    }

-- the search ends at it, or goes on
pub search_ends : (slabs : List OwnSlab) (class place : ℕ) (slab : OwnSlab) (more : List OwnSlab) (room : ℕ) → IsIn room slab slabs → has_free class slab ≡ true → find (has_free class) slabs ≡ find (has_free class) (slab ∷ more) → Some room ≡ room_of (find (has_free class) slabs)
search_ends slabs class place slab more room is free e =
    let half : room ≡ slab.index / 2 = let a = is.at_room in omega (arith, a) in
    ap Some half ∙ sym (ap room_of (e ∙ ap (λ b. cond b (Some slab) (find (has_free class) more)) free))

pub search_goes_on : (class : ℕ) (slab : OwnSlab) (more : List OwnSlab) → has_free class slab ≡ false → find (has_free class) (slab ∷ more) ≡ find (has_free class) more
search_goes_on class slab more none = ap (λ b. cond b (Some slab) (find (has_free class) more)) none
