-- Arrays after an index left its list.
use Rattle.std.proofs.Common.{◌≡◌, ℕ, ◌<◌, true, false, List, [], ◌∷◌, ◌++◌, length, get_or, set, Option, Some, None, is_some, refl, sym, ap, subst, arith, ◌∙◌, length-set}
use Rattle.std.proofs.lemmas.List.{get_or_default}
use Rattle.index_lists.specs.Lists.{Lists, IsIn, members, times, first_of, list_without, without}
use Rattle.index_lists.specs.Links.{Links, link, after_set_link, IsForward, IsBackward, AreLinked}
use Rattle.index_lists.proofs.Times.{times-here, times-append, split, list_without-split, first_in}
use Rattle.index_lists.proofs.Chains.{AreOnce, AreBelow, link-same, link-other, length-after_set_link, forward_linked, backward_linked, first_is, last_from, last_member, last_some, before_is, after_is, forward_out, backward_out}
use Rattle.index_lists.proofs.Listed.{once_in, below_in, list_of, elsewhere, changed, AreApart-without}

-- the heads after a member left: only one with none before it was a head
abbrev pub headed : Links → ℕ → Option ℕ → Option ℕ → Links
headed heads list None next = set heads list next
headed heads list (Some previous) next = heads

pub headed-none : (heads : Links) (list : ℕ) (o next : Option ℕ) → is_some o ≡ false → headed heads list o next ≡ set heads list next
headed-none heads list None next e = refl
headed-none heads list (Some p) next e = absurd (cc)

pub headed-some : (heads : Links) (list : ℕ) (o next : Option ℕ) → is_some o ≡ true → headed heads list o next ≡ heads
headed-some heads list None next e = absurd (cc)
headed-some heads list (Some p) next e = refl

length-headed : (heads : Links) (list : ℕ) (o next : Option ℕ) → length (headed heads list o next) ≡ length heads
length-headed heads list None next = length-set heads list next
length-headed heads list (Some p) next = refl

headed-other : (heads : Links) (list : ℕ) (o next : Option ℕ) (k : ℕ) → (k ≡ list → ⊥)
    → link (headed heads list o next) k ≡ link heads k
headed-other heads list None next k ne = link-other heads list next k ne
headed-other heads list (Some p) next k ne = refl

-- the links on through the list that it left
forward_left : (heads after : Links) (list x : ℕ) (front rest : List ℕ) → list < length heads
    → AreOnce (front ++ (x ∷ rest)) → AreBelow (front ++ (x ∷ rest)) (length after)
    → IsForward after (link heads list) (front ++ (x ∷ rest))
    → IsForward (after_set_link after (last_from None front) (link after x))
    (link (headed heads list (last_from None front) (link after x)) list) (front ++ rest)
forward_left heads after list x [] rest l once below (here, links) =
    subst (λ n. IsForward after n rest) (sym (link-same heads list (link after x) l)) links
forward_left heads after list x (z ∷ zs) rest l once below links =
    subst (λ hs. IsForward (after_set_link after (last_from (Some z) zs) (link after x)) (link hs list) (z ∷ (zs ++ rest)))
    (sym (stays (last_from (Some z) zs) refl)) (forward_out after (link heads list) z zs x rest once below links)
  where
    stays : (o : Option ℕ) → last_from (Some z) zs ≡ o → headed heads list o (link after x) ≡ heads
    stays None e = absurd (last_some z zs e)
    stays (Some p) e = refl

-- where these stand before it and behind it
split_without : (heads after before : Links) (all : Lists) (list x : ℕ) (front rest : List ℕ)
    → AreLinked heads after before all → IsIn all list x → members all list ≡ front ++ (x ∷ rest)
    → AreLinked (headed heads list (last_from None front) (link after x))
    (after_set_link after (last_from None front) (link after x)) (after_set_link before (first_of rest) (last_from None front)) (without all list x)
split_without heads after before all list x front rest are m e = record {
  heads_long = length-headed heads list previous next ∙ are.heads_long ∙ sym (length-set all.lists list (list_without x (members all list)));
  after_long = length-after_set_link after previous next ∙ are.after_long;
  before_long = length-after_set_link before (first_of rest) previous ∙ are.before_long;
  few = are.few;
  forward = changed (λ k ys. IsForward (after_set_link after previous next) (link (headed heads list previous next) k) ys)
      all.lists list (list_without x (members all list)) (list_of all list x m) forward_here forward_there;
  backward = changed (λ k ys. IsBackward (after_set_link before (first_of rest) previous) None ys)
      all.lists list (list_without x (members all list)) (list_of all list x m) backward_here backward_there;
  apart = AreApart-without all list x are.apart m;
}
  where
    next : Option ℕ
    next = link after x

    previous : Option ℕ
    previous = last_from None front

    once : AreOnce (front ++ (x ∷ rest))
    once = subst AreOnce e (once_in all are.apart list)

    below : (n : ℕ) → n ≡ all.indices → AreBelow (front ++ (x ∷ rest)) n
    below n same u h = let b = below_in all are.apart list u (subst (λ xs. 0 < times u xs) (sym e) h) in omega arith

    apart : (times x front ≡ 0) × (times x rest ≡ 0)
    apart =
        let o = once x in
        let a = times-append x front (x ∷ rest) in
        let b = times-here x rest in
        (omega arith, omega arith)

    gone : list_without x (members all list) ≡ front ++ rest
    gone = ap (list_without x) e ∙ list_without-split x front rest apart.0 apart.1

    in_front : (p : ℕ) → previous ≡ Some p → IsIn all list p
    in_front p h = subst (λ xs. 0 < times p xs) (sym e) (let a = last_member front p h in omega (arith, times-append p front (x ∷ rest)))

    in_rest : (p : ℕ) → first_of rest ≡ Some p → IsIn all list p
    in_rest p h = subst (λ xs. 0 < times p xs) (sym e) (let a = first_in rest p h in omega (arith, times-append p front (x ∷ rest)))

    forward_here : IsForward (after_set_link after previous next) (link (headed heads list previous next) list) (list_without x (members all list))
    forward_here =
        subst (IsForward (after_set_link after previous next) (link (headed heads list previous next) list)) (sym gone)
        (forward_left heads after list x front rest (let l = list_of all list x m in omega (arith, are.heads_long)) once
        (below (length after) are.after_long) (subst (IsForward after (link heads list)) e (are.forward list)))

    forward_there : (k : ℕ) → (k ≡ list → ⊥) → IsForward (after_set_link after previous next) (link (headed heads list previous next) k) (members all k)
    forward_there k ne =
        subst (λ n. IsForward (after_set_link after previous next) n (members all k)) (sym (headed-other heads list previous next k ne))
        (forward_linked after (link heads k) (members all k) previous next
        (λ p h. elsewhere all are.apart list k p ne (in_front p h)) (are.forward k))

    backward_here : IsBackward (after_set_link before (first_of rest) previous) None (list_without x (members all list))
    backward_here =
        subst (IsBackward (after_set_link before (first_of rest) previous) None) (sym gone)
        (backward_out before None front x rest once (below (length before) are.before_long) (subst (IsBackward before None) e (are.backward list)))

    backward_there : (k : ℕ) → (k ≡ list → ⊥) → IsBackward (after_set_link before (first_of rest) previous) None (members all k)
    backward_there k ne =
        backward_linked before None (members all k) (first_of rest) previous
        (λ p h. elsewhere all are.apart list k p ne (in_rest p h)) (are.backward k)

-- what was read at a member are its links
link_is : (links : Links) (x : ℕ) (o : Option ℕ) → x < length links → o ≡ get_or links x o → o ≡ link links x
link_is links x o l e = e ∙ get_or_default links x o None l

-- all that is left, from what was read
pub AreLinked-without : (heads after before : Links) (all : Lists) (list x : ℕ) → AreLinked heads after before all → IsIn all list x
    → (next previous : Option ℕ) → next ≡ get_or after x next → previous ≡ get_or before x previous
    → AreLinked (headed heads list previous next) (after_set_link after previous next) (after_set_link before next previous) (without all list x)
AreLinked-without heads after before all list x are m next previous a b =
    let s = split x (members all list) m in
    let i = below_in all are.apart list x m in
    let p = link_is before x previous (omega (arith, are.before_long)) b in
    let n = link_is after x next (omega (arith, are.after_long)) a in
    let back = p ∙ before_is before None s.0 x s.1 (subst (IsBackward before None) s.2 (are.backward list)) in
    let on = first_is after (link after x) s.1 (after_is after (link heads list) s.0 x s.1 (subst (IsForward after (link heads list)) s.2 (are.forward list))) in
    subst (λ q. AreLinked (headed heads list previous next) (after_set_link after previous next) (after_set_link before q previous) (without all list x)) (sym (n ∙ on))
    (subst (λ q. AreLinked (headed heads list previous q) (after_set_link after previous q) (after_set_link before (first_of s.1) previous) (without all list x)) (sym n)
    (subst (λ q. AreLinked (headed heads list q (link after x)) (after_set_link after q (link after x)) (after_set_link before (first_of s.1) q) (without all list x)) (sym back)
    (split_without heads after before all list x s.0 s.1 are m s.2)))
