-- What follows where each index stands in one place of one list at most, and what a change of one list does to the others.
-- Callers may use these.
use Rattle.std.proofs.Common.{◌≡◌, ℕ, zero, suc, ◌+◌, ◌<◌, ◌≤◌, ◌==◌, cond, inl, inr, List, [], ◌∷◌, ◌++◌, length, get_or, set, slice_get, Option, Some, None, IfSome, refl, sym, ap, subst, arith, ◌∙◌, take}
use Rattle.std.proofs.lemmas.Bool.Decides.{nat_tests}
use Rattle.std.proofs.lemmas.Bool.{cases_eq, cases_lt}
use Rattle.std.proofs.lemmas.Option.{same_Some, slice_get-get_or, slice_get_within, get_or_from_slice_get}
use Rattle.std.proofs.lemmas.List.{get_or-set_same, get_or-set_other, get_or_past, take_all, take_more}
use Rattle.std.proofs.lemmas.List.Sums.{sum_by-set}
use Rattle.index_lists.specs.Lists.{Lists, AreApart, IsIn, IsInSome, IsInNone, members, times, times_listed, first_of, list_without, with_first, without}
use Rattle.index_lists.proofs.Times.{times-append, times-le, times-two, times-list_without, first_in, found, times-here}

-- no member of a list stands in it twice
pub once_in : (all : Lists) → AreApart all → (list index : ℕ) → times index (members all list) ≤ 1
once_in all apart list index = let o = apart.once index in omega (arith, times-le index all.lists list)

-- what stands in a list stands in some list
pub in_some : (all : Lists) (list index : ℕ) → IsIn all list index → IsInSome all index
in_some all list index l = omega (arith, times-le index all.lists list)

pub in_one : (all : Lists) (index : ℕ) → IsInSome all index → (list : ℕ) × IsIn all list index
in_one all index l = found all.lists index l

pub below_in : (all : Lists) → AreApart all → (list index : ℕ) → IsIn all list index → index < all.indices
below_in all apart list index l = apart.below index (in_some all list index l)

-- a list that has a member is one of them
pub list_of : (all : Lists) (list index : ℕ) → IsIn all list index → list < length all.lists
list_of all list index l = elim (cases_lt list (length all.lists)) [
  | inl h ↦ h
  | inr h ↦ absurd (none (rw (get_or_past all.lists list [] h) at l))
]
  where
    none : 0 < times index [] → ⊥
    none h = absurd (omega arith)

-- what stands in one list stands in no other
pub elsewhere : (all : Lists) → AreApart all → (list other index : ℕ) → (other ≡ list → ⊥) → IsIn all list index
    → times index (members all other) ≡ 0
elsewhere all apart list other index ne l =
    let o = apart.once index in
    let both = times-two index all.lists list other (list_of all list index l) ne in
    omega arith

pub one_list : (all : Lists) → AreApart all → (list other index : ℕ) → IsIn all list index → IsIn all other index
    → other ≡ list
one_list all apart list other index l m = elim (cases_eq other list) [
  | inl e ↦ e
  | inr ne ↦ absurd (let none = elsewhere all apart list other index ne l in omega arith)
]

-- the first of a list stands in it
pub first_member : (all : Lists) (list : ℕ) (o : Option ℕ) → o ≡ first_of (members all list) → IfSome o (IsIn all list)
first_member all list None e = tt
first_member all list (Some index) e = first_in (members all list) index (sym e)

-- so does what stands behind a member
pub later_member : (all : Lists) (list : ℕ) (front : List ℕ) (x : ℕ) (rest : List ℕ)
    → members all list ≡ front ++ (x ∷ rest) → (o : Option ℕ) → o ≡ first_of rest → IfSome o (IsIn all list)
later_member all list front x rest e None h = tt
later_member all list front x rest e (Some index) h =
    let l = first_in rest index (sym h) in
    let a = times-append index front (x ∷ rest) in
    let whole = ap (times index) e in
    omega arith

pub below_if_in : (all : Lists) → AreApart all → (list : ℕ) (o : Option ℕ) → IfSome o (IsIn all list)
    → (n : ℕ) → all.indices ≡ n → IfSome o (λ index. index < n)
below_if_in all apart list None l n e = tt
below_if_in all apart list (Some index) l n e = let b = below_in all apart list index l in omega arith

-- a place in a list has members before it and behind it
pub at_place : (xs : List ℕ) (place x : ℕ) → slice_get xs place ≡ Some x
    → (earlier rest : List ℕ) × (xs ≡ earlier ++ (x ∷ rest)) × (first_of rest ≡ slice_get xs (suc place))
at_place [] place x e = absurd (cc)
at_place (y ∷ []) zero x e = ([], [], ap (λ v. v ∷ []) (same_Some y x e), refl)
at_place (y ∷ (z ∷ zs)) zero x e = ([], z ∷ zs, ap (λ v. v ∷ (z ∷ zs)) (same_Some y x e), refl)
at_place (y ∷ ys) (suc n) x e = let more = at_place ys n x e in (y ∷ more.0, more.1, ap (λ v. y ∷ v) more.2, more.3)

pub first_place : (xs : List ℕ) → first_of xs ≡ slice_get xs 0
first_place [] = refl
first_place (x ∷ xs) = refl

-- a law of each list and its members holds after a change of one list, if it holds of that one and of each other
pub changed : (P : ℕ → List ℕ → Type 0) (lists : List (List ℕ)) (list : ℕ) (ys : List ℕ) → list < length lists
    → P list ys → ((k : ℕ) → (k ≡ list → ⊥) → P k (get_or lists k [])) → (k : ℕ) → P k (get_or (set lists list ys) k [])
changed P lists list ys l here others k = elim (cases_eq k list) [
  | inl e ↦ subst (λ n. P n (get_or (set lists list ys) n [])) (sym e) (subst (P list) (sym (get_or-set_same lists list ys [] l)) here)
  | inr ne ↦ subst (P k) (sym (get_or-set_other lists list k ys [] ne)) (others k ne)
]

-- the members of each list after a change
pub members-with_first : (all : Lists) (list index k : ℕ) → list < length all.lists
    → members (with_first all list index) k ≡ cond (k == list) (index ∷ members all list) (members all k)
members-with_first all list index k l =
    changed (λ j ys. ys ≡ cond (j == list) (index ∷ members all list) (members all j)) all.lists list (index ∷ members all list) l
    (grind (arith, nat_tests)) (λ j ne. grind (arith, nat_tests)) k

pub members-without : (all : Lists) (list index k : ℕ) → IsIn all list index
    → members (without all list index) k ≡ cond (k == list) (list_without index (members all list)) (members all k)
members-without all list index k l =
    changed (λ j ys. ys ≡ cond (j == list) (list_without index (members all list)) (members all j)) all.lists list (list_without index (members all list)) (list_of all list index l)
    (grind (arith, nat_tests)) (λ j ne. grind (arith, nat_tests)) k

-- how often each index stands in the lists after a change
pub times-with_first : (all : Lists) (list index u : ℕ) → list < length all.lists
    → times_listed u (with_first all list index).lists ≡ cond (u == index) 1 0 + times_listed u all.lists
times-with_first all list index u l =
    let whole = sum_by-set (times u) all.lists list (index ∷ members all list) [] l in omega arith

pub times-without : (all : Lists) (list index u : ℕ) → AreApart all → IsIn all list index
    → times_listed u (without all list index).lists ≡ cond (u == index) 0 (times_listed u all.lists)
times-without all list index u apart l =
    let whole = sum_by-set (times u) all.lists list (list_without index (members all list)) [] (list_of all list index l) in
    let left = times-list_without u index (members all list) in
    elim (cases_eq u index) [
      | inl e ↦ let o = apart.once u in let here = subst (λ v. 0 < times v (members all list)) (sym e) l in grind (arith, nat_tests)
      | inr ne ↦ grind (arith, nat_tests)
    ]

pub IsIn-with_first : (all : Lists) (list index : ℕ) → list < length all.lists → IsIn (with_first all list index) list index
IsIn-with_first all list index l =
    rw (get_or-set_same all.lists list (index ∷ members all list) [] l) (omega (arith, times-here index (members all list)))

pub IsInNone-without : (all : Lists) (list index : ℕ) → AreApart all → IsIn all list index
    → IsInNone (without all list index) index
IsInNone-without all list index apart l = let e = times-without all list index index apart l in grind (arith, nat_tests)

-- so the indices stay apart
pub AreApart-with_first : (all : Lists) (list index : ℕ) → AreApart all
    → list < length all.lists → index < all.indices → IsInNone all index → AreApart (with_first all list index)
AreApart-with_first all list index apart l i none = record {
  once = λ u. let o = apart.once u in one u (times-with_first all list index u l) o;
  below = λ u h. under u (times-with_first all list index u l) (apart.below u) h;
}
  where
    one : (u : ℕ) → times_listed u (with_first all list index).lists ≡ cond (u == index) 1 0 + times_listed u all.lists
        → times_listed u all.lists ≤ 1 → times_listed u (with_first all list index).lists ≤ 1
    one u e o = elim (cases_eq u index) [
      | inl same ↦ let z : times_listed u all.lists ≡ 0 = ap (λ v. times_listed v all.lists) same ∙ none in grind (arith, nat_tests)
      | inr ne ↦ grind (arith, nat_tests)
    ]

    under : (u : ℕ) → times_listed u (with_first all list index).lists ≡ cond (u == index) 1 0 + times_listed u all.lists
        → (IsInSome all u → u < all.indices) → IsInSome (with_first all list index) u → u < all.indices
    under u e b h = elim (cases_eq u index) [
      | inl same ↦ omega arith
      | inr ne ↦ b (grind (arith, nat_tests))
    ]

pub AreApart-without : (all : Lists) (list index : ℕ) → AreApart all → IsIn all list index
    → AreApart (without all list index)
AreApart-without all list index apart l = record {
  once = λ u. let o = apart.once u in omega (arith, fewer u);
  below = λ u h. apart.below u (omega (arith, fewer u));
}
  where
    fewer : (u : ℕ) → times_listed u (without all list index).lists ≤ times_listed u all.lists
    fewer u = let e = times-without all list index u apart l in grind (arith, nat_tests)

-- a walk along a list, from a place to the next
pub place_in : (xs : List ℕ) (place x : ℕ) → slice_get xs place ≡ Some x → 0 < times x xs
place_in xs place x e =
    let s = at_place xs place x e in
    let a = times-append x s.0 (x ∷ s.1) in
    let b = times-here x s.1 in
    let whole = ap (times x) s.2 in
    omega arith

pub take_place : (xs : List ℕ) (place x : ℕ) → slice_get xs place ≡ Some x → take place xs ++ (x ∷ []) ≡ take (place + 1) xs
take_place xs place x e =
    sym (take_more xs place x (slice_get_within xs place x e) ∙ ap (λ v. take place xs ++ (v ∷ [])) (get_or_from_slice_get xs place x x e))

pub take_none : (xs : List ℕ) (place : ℕ) → slice_get xs place ≡ None → take place xs ≡ xs
take_none xs place e = elim (cases_lt place (length xs)) [
  | inl l ↦ absurd (none_there (sym (slice_get-get_or xs place 0 l) ∙ e))
  | inr l ↦ take_all place xs l
]
  where
    none_there : Some (get_or xs place 0) ≡ None → ⊥
    none_there h = cc

-- what stands in none of the lists stands in none
pub none_from_each : (all : Lists) (index : ℕ) → ((k : ℕ) → k < length all.lists → times index (members all k) ≡ 0)
    → IsInNone all index
none_from_each all index each = elim (cases_lt 0 (times_listed index all.lists)) [
  | inl l ↦ absurd (let m = in_one all index l in let z = each m.0 (list_of all m.0 index m.1) in let p = m.1 in omega arith)
  | inr l ↦ omega arith
]

-- a search through a list, place by place
pub times-take_more : (xs : List ℕ) (place u : ℕ) → place < length xs → (get_or xs place 0 ≡ u → ⊥)
    → times u (take place xs) ≡ 0 → times u (take (place + 1) xs) ≡ 0
times-take_more xs place u l ne none =
    let a = times-append u (take place xs) (get_or xs place 0 ∷ []) in
    ap (times u) (take_more xs place 0 l) ∙ grind (arith, nat_tests)

pub times-at : (xs : List ℕ) (place u : ℕ) → place < length xs → get_or xs place 0 ≡ u → 0 < times u xs
times-at xs place u l e = place_in xs place u (slice_get-get_or xs place 0 l ∙ ap (λ v. Some v) e)
