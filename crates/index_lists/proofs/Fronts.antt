-- Arrays of empty lists, and arrays after an index became the first of a list.
use Rattle.std.proofs.Common.{◌≡◌, ℕ, ◌^◌, ◌<◌, inl, inr, List, [], ◌∷◌, length, get_or, set, replicate, Option, Some, None, sym, subst, arith, ◌∙◌, length-set}
use Rattle.std.proofs.lemmas.Bool.{cases_lt}
use Rattle.std.proofs.lemmas.List.{get_or-replicate, get_or_past, length-replicate}
use Rattle.std.proofs.lemmas.List.Folds.{sum_by-replicate}
use Rattle.index_lists.specs.Lists.{Lists, IsInNone, members, times, times_listed, first_of, with_first, empty_lists}
use Rattle.index_lists.specs.Links.{Links, link, after_set_link, IsForward, IsBackward, AreLinked}
use Rattle.index_lists.proofs.Times.{times-le, first_in}
use Rattle.index_lists.proofs.Chains.{link-same, link-other, length-after_set_link, forward_apart, backward_apart, backward_linked, first_is, forward_front, backward_front}
use Rattle.index_lists.proofs.Listed.{once_in, below_in, elsewhere, changed, AreApart-with_first}

pub AreLinked-empty : (lists indices : ℕ) → indices < 2 ^ 32
    → AreLinked (replicate lists None) (replicate indices None) (replicate indices None) (empty_lists lists indices)
AreLinked-empty lists indices few = record {
  heads_long = length-replicate lists None ∙ sym (length-replicate lists []);
  after_long = length-replicate indices None;
  before_long = length-replicate indices None;
  few = few;
  forward = λ k. subst (IsForward (replicate indices None) (link (replicate lists None) k)) (sym (empty k)) (no_head k);
  backward = λ k. subst (IsBackward (replicate indices None) None) (sym (empty k)) tt;
  apart = record { once = λ u. omega (arith, none u); below = λ u h. absurd (omega (arith, none u)) };
}
  where
    empty : (k : ℕ) → get_or {A = List ℕ} (replicate lists []) k [] ≡ []
    empty k = elim (cases_lt k lists) [
      | inl l ↦ get_or-replicate lists k [] [] l
      | inr l ↦ get_or_past (replicate lists []) k [] (omega (arith, length-replicate {A = List ℕ} lists []))
    ]

    no_head : (k : ℕ) → link (replicate lists None) k ≡ None
    no_head k = elim (cases_lt k lists) [
      | inl l ↦ get_or-replicate lists k None None l
      | inr l ↦ get_or_past (replicate lists None) k None (omega (arith, length-replicate {A = Option ℕ} lists None))
    ]

    none : (u : ℕ) → times_listed u (replicate lists []) ≡ 0
    none u = let sum = sum_by-replicate (times u) lists [] in omega arith

pub AreLinked-with_first : (heads after before : Links) (all : Lists) (list index : ℕ)
    → AreLinked heads after before all → list < length all.lists → index < all.indices → IsInNone all index
    → AreLinked (set heads list (Some index)) (set after index (link heads list))
    (after_set_link (set before index None) (link heads list) (Some index)) (with_first all list index)
AreLinked-with_first heads after before all list index are l i none = record {
  heads_long = length-set heads list (Some index) ∙ are.heads_long ∙ sym (length-set all.lists list (index ∷ members all list));
  after_long = length-set after index head ∙ are.after_long;
  before_long = length-after_set_link (set before index None) head (Some index) ∙ length-set before index None ∙ are.before_long;
  few = are.few;
  forward = changed (λ k ys. IsForward (set after index head) (link (set heads list (Some index)) k) ys)
      all.lists list (index ∷ members all list) l forward_here forward_there;
  backward = changed (λ k ys. IsBackward (after_set_link (set before index None) head (Some index)) None ys)
      all.lists list (index ∷ members all list) l backward_here backward_there;
  apart = AreApart-with_first all list index are.apart l i none;
}
  where
    head : Option ℕ
    head = link heads list

    head_is : head ≡ first_of (members all list)
    head_is = first_is after head (members all list) (are.forward list)

    free : (k : ℕ) → times index (members all k) ≡ 0
    free k = omega (arith, times-le index all.lists k)

    forward_here : IsForward (set after index head) (link (set heads list (Some index)) list) (index ∷ members all list)
    forward_here =
        subst (λ n. IsForward (set after index head) n (index ∷ members all list)) (sym (link-same heads list (Some index) (omega (arith, are.heads_long))))
        (forward_front after head (members all list) index (omega (arith, are.after_long)) (free list) (are.forward list))

    forward_there : (k : ℕ) → (k ≡ list → ⊥) → IsForward (set after index head) (link (set heads list (Some index)) k) (members all k)
    forward_there k ne =
        subst (λ n. IsForward (set after index head) n (members all k)) (sym (link-other heads list (Some index) k ne))
        (forward_apart after (link heads k) (members all k) index head (free k) (are.forward k))

    backward_here : IsBackward (after_set_link (set before index None) head (Some index)) None (index ∷ members all list)
    backward_here =
        subst (λ n. IsBackward (after_set_link (set before index None) n (Some index)) None (index ∷ members all list)) (sym head_is)
        (backward_front before (members all list) index (omega (arith, are.before_long)) (free list)
        (once_in all are.apart list) (λ u h. let b = below_in all are.apart list u h in omega (arith, are.before_long)) (are.backward list))

    backward_there : (k : ℕ) → (k ≡ list → ⊥) → IsBackward (after_set_link (set before index None) head (Some index)) None (members all k)
    backward_there k ne =
        backward_linked (set before index None) None (members all k) head (Some index)
        (λ p e. elsewhere all are.apart list k p ne (first_in (members all list) p (sym head_is ∙ e)))
        (backward_apart before None (members all k) index None (free k) (are.backward k))
