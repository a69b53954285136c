-- What is read of the links, and what is left of an array that was written.
use Rattle.std.proofs.Common.{◌≡◌, ℕ, ◌<◌, List, ◌∷◌, ◌++◌, length, get_or, take, drop, Option, Some, None, IfSome, sym, ap, subst, arith, ◌∙◌}
use Rattle.std.proofs.lemmas.List.{get_or_default, take_at}
use Rattle.index_lists.specs.Lists.{Lists, IsIn, members, times, first_of}
use Rattle.index_lists.specs.Links.{Links, link, walked, IsForward, IsBackward, AreLinked}
use Rattle.index_lists.proofs.Times.{times-append, split}
use Rattle.index_lists.proofs.Chains.{first_is, last_member, before_is, after_is}
use Rattle.index_lists.proofs.Listed.{below_in, later_member}

-- the arrays link the lists that a caller sees
pub linked_at : (heads after before : Links) (all : Lists) → walked heads after ≡ all
    → AreLinked heads after before (walked heads after) → AreLinked heads after before all
linked_at heads after before all e are = subst (AreLinked heads after before) e are

pub head_is : (heads after before : Links) (all : Lists) → AreLinked heads after before all
    → (list : ℕ) (o : Option ℕ) → list < length all.lists → o ≡ get_or heads list o → o ≡ link heads list
head_is heads after before all are list o l e = e ∙ get_or_default heads list o None (omega (arith, are.heads_long))

pub at_first : (heads after before : Links) (all : Lists) → AreLinked heads after before all
    → (list : ℕ) (o : Option ℕ) → list < length all.lists → o ≡ get_or heads list o → o ≡ first_of (members all list)
at_first heads after before all are list o l e =
    head_is heads after before all are list o l e ∙ first_is after (link heads list) (members all list) (are.forward list)

pub at_following : (heads after before : Links) (all : Lists) → AreLinked heads after before all
    → (index : ℕ) (o : Option ℕ) → index < all.indices → o ≡ get_or after index o
    → (list : ℕ) (earlier rest : List ℕ) → members all list ≡ earlier ++ (index ∷ rest) → o ≡ first_of rest
at_following heads after before all are index o l e list earlier rest s =
    e ∙ get_or_default after index o None (omega (arith, are.after_long))
    ∙ first_is after (link after index) rest (after_is after (link heads list) earlier index rest (subst (IsForward after (link heads list)) s (are.forward list)))

-- what is read at a member is a member of its list
pub following_member : (heads after before : Links) (all : Lists) → AreLinked heads after before all
    → (list index : ℕ) → IsIn all list index → (o : Option ℕ) → o ≡ get_or after index o → IfSome o (IsIn all list)
following_member heads after before all are list index m o e =
    let s = split index (members all list) m in
    let i = below_in all are.apart list index m in
    later_member all list s.0 index s.1 s.2 o (at_following heads after before all are index o i e list s.0 s.1 s.2)

pub previous_member : (heads after before : Links) (all : Lists) → AreLinked heads after before all
    → (list index : ℕ) → IsIn all list index → (o : Option ℕ) → o ≡ get_or before index o → IfSome o (IsIn all list)
previous_member heads after before all are list index m None e = tt
previous_member heads after before all are list index m (Some p) e =
    let s = split index (members all list) m in
    let i = below_in all are.apart list index m in
    let back = before_is before None s.0 index s.1 (subst (IsBackward before None) s.2 (are.backward list)) in
    let l = last_member s.0 p (sym back ∙ get_or_default before index None (Some p) (omega (arith, are.before_long)) ∙ sym e) in
    let a = times-append p s.0 (index ∷ s.1) in
    let whole = ap (times p) s.2 in
    omega arith

-- an array that was written whole is what was written
pub written : (n : ℕ) (xs ys : Links) → length xs ≡ n → take n (xs ++ drop (length xs) ys) ≡ xs
written n xs ys e = take_at xs (drop (length xs) ys) n e
