-- What a change of one link leaves of the links through a list.
use Rattle.std.proofs.Common.{◌≡◌, ℕ, ◌<◌, ◌≤◌, List, [], ◌∷◌, ◌++◌, length, set, Option, Some, None, refl, sym, subst, arith, ◌∙◌, length-set}
use Rattle.std.proofs.lemmas.Bool.Decides.{nat_tests}
use Rattle.std.proofs.lemmas.List.{get_or-set_same, get_or-set_other}
use Rattle.index_lists.specs.Lists.{times, first_of}
use Rattle.index_lists.specs.Links.{Links, link, after_set_link, IsForward, IsBackward}
use Rattle.index_lists.proofs.Times.{times-append, times-here, not_first, not_behind, none_behind, first_in}

-- no member stands twice
abbrev pub AreOnce : List ℕ → Type 0
AreOnce xs = (u : ℕ) → times u xs ≤ 1

-- each member is below a number
abbrev pub AreBelow : List ℕ → ℕ → Type 0
AreBelow xs n = (u : ℕ) → 0 < times u xs → u < n

pub link-same : (links : Links) (i : ℕ) (v : Option ℕ) → i < length links → link (set links i v) i ≡ v
link-same links i v l = get_or-set_same links i v None l

pub link-other : (links : Links) (i : ℕ) (v : Option ℕ) (j : ℕ) → (j ≡ i → ⊥) → link (set links i v) j ≡ link links j
link-other links i v j ne = get_or-set_other links i j v None ne

pub after_set_link-other : (links : Links) (at v : Option ℕ) (j : ℕ) → ((p : ℕ) → at ≡ Some p → j ≡ p → ⊥)
    → link (after_set_link links at v) j ≡ link links j
after_set_link-other links None v j ne = refl
after_set_link-other links (Some p) v j ne = link-other links p v j (ne p refl)

pub length-after_set_link : (links : Links) (at v : Option ℕ) → length (after_set_link links at v) ≡ length links
length-after_set_link links None v = refl
length-after_set_link links (Some p) v = length-set links p v

-- a change of a link elsewhere leaves them
pub forward_apart : (after : Links) (next : Option ℕ) (xs : List ℕ) (p : ℕ) (v : Option ℕ) → times p xs ≡ 0
    → IsForward after next xs → IsForward (set after p v) next xs
forward_apart after next [] p v none links = links
forward_apart after next (x ∷ xs) p v none (here, links) = (
  here,
  subst (λ n. IsForward (set after p v) n xs) (sym (link-other after p v x (not_first x p xs none)))
      (forward_apart after (link after x) xs p v (not_behind x p xs none) links),
)

pub backward_apart : (before : Links) (previous : Option ℕ) (xs : List ℕ) (p : ℕ) (v : Option ℕ) → times p xs ≡ 0
    → IsBackward before previous xs → IsBackward (set before p v) previous xs
backward_apart before previous [] p v none links = links
backward_apart before previous (x ∷ xs) p v none (here, links) = (
  link-other before p v x (not_first x p xs none) ∙ here,
  backward_apart before (Some x) xs p v (not_behind x p xs none) links,
)

-- the same for a change at an index that may be none
pub forward_linked : (after : Links) (next : Option ℕ) (xs : List ℕ) (at v : Option ℕ)
    → ((p : ℕ) → at ≡ Some p → times p xs ≡ 0) → IsForward after next xs → IsForward (after_set_link after at v) next xs
forward_linked after next xs None v none links = links
forward_linked after next xs (Some p) v none links = forward_apart after next xs p v (none p refl) links

pub backward_linked : (before : Links) (previous : Option ℕ) (xs : List ℕ) (at v : Option ℕ)
    → ((p : ℕ) → at ≡ Some p → times p xs ≡ 0)
    → IsBackward before previous xs → IsBackward (after_set_link before at v) previous xs
backward_linked before previous xs None v none links = links
backward_linked before previous xs (Some p) v none links = backward_apart before previous xs p v (none p refl) links

-- the links begin at the first member
pub first_is : (after : Links) (next : Option ℕ) (xs : List ℕ) → IsForward after next xs → next ≡ first_of xs
first_is after next [] links = links
first_is after next (x ∷ xs) (here, links) = here

-- the last of the members, or what stands before them
abbrev pub last_from : Option ℕ → List ℕ → Option ℕ
last_from previous [] = previous
last_from previous (x ∷ xs) = last_from (Some x) xs

pub last_in : (x : ℕ) (xs : List ℕ) (p : ℕ) → last_from (Some x) xs ≡ Some p → 0 < times p (x ∷ xs)
last_in x [] p e = let same : x ≡ p = cc in grind (arith, nat_tests)
last_in x (y ∷ ys) p e = let ih = last_in y ys p e in omega arith

pub last_member : (xs : List ℕ) (p : ℕ) → last_from None xs ≡ Some p → 0 < times p xs
last_member [] p e = absurd (cc)
last_member (x ∷ xs) p e = last_in x xs p e

pub last_some : (x : ℕ) (xs : List ℕ) → last_from (Some x) xs ≡ None → ⊥
last_some x [] e = cc
last_some x (y ∷ ys) e = last_some y ys e

-- the links of a member lead to its neighbours
pub before_is : (before : Links) (previous : Option ℕ) (front : List ℕ) (x : ℕ) (rest : List ℕ)
    → IsBackward before previous (front ++ (x ∷ rest)) → link before x ≡ last_from previous front
before_is before previous [] x rest (here, links) = here
before_is before previous (z ∷ zs) x rest (here, links) = before_is before (Some z) zs x rest links

pub after_is : (after : Links) (next : Option ℕ) (front : List ℕ) (x : ℕ) (rest : List ℕ)
    → IsForward after next (front ++ (x ∷ rest)) → IsForward after (link after x) rest
after_is after next [] x rest (here, links) = links
after_is after next (z ∷ zs) x rest (here, links) = after_is after (link after z) zs x rest links

-- an index that comes before the first member
pub forward_front : (after : Links) (head : Option ℕ) (xs : List ℕ) (x : ℕ) → x < length after → times x xs ≡ 0
    → IsForward after head xs → IsForward (set after x head) (Some x) (x ∷ xs)
forward_front after head xs x l none links = (
  refl,
  subst (λ n. IsForward (set after x head) n xs) (sym (link-same after x head l))
      (forward_apart after head xs x head none links),
)

pub backward_front : (before : Links) (xs : List ℕ) (x : ℕ) → x < length before → times x xs ≡ 0
    → AreOnce xs → AreBelow xs (length before)
    → IsBackward before None xs → IsBackward (after_set_link (set before x None) (first_of xs) (Some x)) None (x ∷ xs)
backward_front before [] x l none once below links = (link-same before x None l, tt)
backward_front before (y ∷ ys) x l none once below (here, links) = (
  link-other (set before x None) y (Some x) x (λ same. not_first y x ys none (sym same)) ∙ link-same before x None l,
  (
    link-same (set before x None) y (Some x) inside,
    backward_apart (set before x None) (Some y) ys y (Some x) (none_behind y ys (once y))
        (backward_apart before (Some y) ys x None (not_behind y x ys none) links),
  ),
)
  where
    inside : y < length (set before x None)
    inside = let b = below y (omega (arith, times-here y ys)) in omega (arith, length-set before x None)

-- a member with others before it leaves the links on
pub forward_out : (after : Links) (next : Option ℕ) (z : ℕ) (zs : List ℕ) (x : ℕ) (rest : List ℕ)
    → AreOnce (z ∷ (zs ++ (x ∷ rest))) → AreBelow (z ∷ (zs ++ (x ∷ rest))) (length after)
    → IsForward after next (z ∷ (zs ++ (x ∷ rest)))
    → IsForward (after_set_link after (last_from (Some z) zs) (link after x)) next (z ∷ (zs ++ rest))
forward_out after next z [] x rest once below (here, (there, links)) = (
  here,
  subst (λ n. IsForward (set after z (link after x)) n rest) (sym (link-same after z (link after x) inside))
      (forward_apart after (link after x) rest z (link after x) apart links),
)
  where
    inside : z < length after
    inside = below z (omega (arith, times-here z (x ∷ rest)))

    apart : times z rest ≡ 0
    apart = not_behind x z rest (none_behind z (x ∷ rest) (once z))
forward_out after next z (w ∷ ws) x rest once below (here, links) = (
  here,
  subst (λ n. IsForward (after_set_link after (last_from (Some w) ws) (link after x)) n (w ∷ (ws ++ rest)))
      (sym (after_set_link-other after (last_from (Some w) ws) (link after x) z apart))
      (forward_out after (link after z) w ws x rest
      (λ u. let o = once u in omega arith) (λ u l. below u (omega arith)) links),
)
  where
    apart : (p : ℕ) → last_from (Some w) ws ≡ Some p → z ≡ p → ⊥
    apart p e same =
        let o = once p in
        let l = last_in w ws p e in
        let a = times-append p ws (x ∷ rest) in
        absurd (grind (arith, nat_tests))

-- a member leaves the links back
pub backward_out : (before : Links) (previous : Option ℕ) (front : List ℕ) (x : ℕ) (rest : List ℕ)
    → AreOnce (front ++ (x ∷ rest)) → AreBelow (front ++ (x ∷ rest)) (length before)
    → IsBackward before previous (front ++ (x ∷ rest))
    → IsBackward (after_set_link before (first_of rest) (last_from previous front)) previous (front ++ rest)
backward_out before previous [] x [] once below links = tt
backward_out before previous [] x (y ∷ rest) once below (here, (there, links)) =
    (link-same before y previous inside, backward_apart before (Some y) rest y previous apart links)
  where
    inside : y < length before
    inside = below y (omega (arith, times-here y rest))

    apart : times y rest ≡ 0
    apart = let o = once y in omega (arith, times-here y rest)
backward_out before previous (z ∷ zs) x rest once below (here, links) = (
  after_set_link-other before (first_of rest) (last_from (Some z) zs) z apart ∙ here,
  backward_out before (Some z) zs x rest
      (λ u. let o = once u in omega arith) (λ u l. below u (omega arith)) links,
)
  where
    apart : (p : ℕ) → first_of rest ≡ Some p → z ≡ p → ⊥
    apart p e same =
        let o = once p in
        let l = first_in rest p e in
        let a = times-append p zs (x ∷ rest) in
        absurd (grind (arith, nat_tests))
