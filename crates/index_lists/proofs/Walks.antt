-- The walk from each head gives the list that the arrays link.
use Rattle.std.proofs.Common.{◌≡◌, ℕ, zero, suc, ◌<◌, ◌≤◌, eqb, true, false, inl, inr, List, [], ◌∷◌, length, get_or, map, Option, None, refl, sym, ap, subst, arith, ◌∙◌}
use Rattle.std.specs.List.{IsDistinct, AllByRecursion, list_any}
use Rattle.std.proofs.lemmas.Bool.Decides.{nat_tests}
use Rattle.std.proofs.lemmas.Bool.{eqb-true, ne_eqb, cases_Bool}
use Rattle.std.proofs.lemmas.List.{same_lists, get_or-map, length-map, get_or_default}
use Rattle.std.proofs.lemmas.Map.Steps.{length-le_from_distinct_below}
use Rattle.index_lists.specs.Lists.{Lists, members, times, AreApart}
use Rattle.index_lists.specs.Links.{Links, link, walk, walked, IsForward, AreLinked}
use Rattle.index_lists.proofs.Times.{not_first, not_behind, none_behind}
use Rattle.index_lists.proofs.Chains.{AreOnce, AreBelow}
use Rattle.index_lists.proofs.Listed.{once_in, below_in}

apart_from_all : (x : ℕ) (xs : List ℕ) → times x xs ≡ 0 → AllByRecursion (λ y. eqb x y ≡ false) xs
apart_from_all x [] none = tt
apart_from_all x (y ∷ ys) none =
    (ne_eqb x y (λ same. not_first y x ys none (sym same)), apart_from_all x ys (not_behind y x ys none))

distinct : (xs : List ℕ) → AreOnce xs → IsDistinct eqb xs
unfolding IsDistinct
distinct [] once = tt
distinct (x ∷ xs) once =
    (apart_from_all x xs (none_behind x xs (once x)), distinct xs (λ u. let o = once u in omega arith))

stands : (u : ℕ) (xs : List ℕ) → list_any (eqb u) xs ≡ true → 0 < times u xs
stands u [] e = absurd (cc)
stands u (x ∷ xs) e = elim (cases_Bool (eqb u x)) [
  | inl h ↦ let same = eqb-true u x h in grind (arith, nat_tests)
  | inr h ↦ let ih = stands u xs (behind h) in omega arith
]
  where
    behind : eqb u x ≡ false → list_any (eqb u) xs ≡ true
    behind h = grind arith

-- members that stand once and are below a number are no more than that
short : (xs : List ℕ) (n : ℕ) → AreOnce xs → AreBelow xs n → length xs ≤ n
short xs n once below = length-le_from_distinct_below xs n (distinct xs once) (λ u h. below u (stands u xs h))

-- no list has more members than there are indices. Callers may use this
pub few_members : (all : Lists) (list : ℕ) → AreApart all → length (members all list) ≤ all.indices
few_members all list apart = short (members all list) all.indices (once_in all apart list) (λ u h. below_in all apart list u h)

walk_is : (after : Links) (steps : ℕ) (next : Option ℕ) (xs : List ℕ) → IsForward after next xs → length xs ≤ steps
    → walk after steps next ≡ xs
unfolding walk
walk_is after zero next [] links l = refl
walk_is after (suc n) next [] links l = ap (walk after (suc n)) links
walk_is after zero next (x ∷ xs) links l = absurd (omega arith)
walk_is after (suc n) next (x ∷ xs) (here, links) l =
    ap (walk after (suc n)) here ∙ ap (λ v. x ∷ v) (walk_is after n (link after x) xs links (omega arith))

-- the arrays are seen as the lists that they link
pub walked_is : (heads after before : Links) (all : Lists) → AreLinked heads after before all → walked heads after ≡ all
walked_is heads after before all are =
    whole (map (walk after (length after)) heads) (same_lists _ all.lists (length-map heads (walk after (length after)) ∙ are.heads_long) each)
  where
    here : (k : ℕ) → k < length heads → walk after (length after) (link heads k) ≡ members all k
    here k l = walk_is after (length after) (link heads k) (members all k) (are.forward k)
        (short (members all k) (length after) (once_in all are.apart k) (λ u h. let b = below_in all are.apart k u h in omega (arith, are.after_long)))

    each : (k : ℕ) (d : List ℕ) → k < length (map (walk after (length after)) heads)
        → get_or (map (walk after (length after)) heads) k d ≡ get_or all.lists k d
    each k d l =
        let m : k < length heads = omega (arith, length-map heads (walk after (length after))) in
        get_or-map (walk after (length after)) heads k None d m ∙ here k m ∙ get_or_default all.lists k [] d (omega (arith, are.heads_long))

    both : List (List ℕ) → ℕ → Lists
    both lists indices = record { lists = lists; indices = indices }

    whole : (lists : List (List ℕ)) → lists ≡ all.lists → both lists (length after) ≡ all
    whole lists e = ap (λ v. both v (length after)) e ∙ ap (both all.lists) are.after_long

-- so they link the lists that they are seen as
pub linked_as_seen : (heads after before : Links) (all : Lists) → AreLinked heads after before all
    → AreLinked heads after before (walked heads after)
linked_as_seen heads after before all are = subst (AreLinked heads after before) (sym (walked_is heads after before all are)) are
