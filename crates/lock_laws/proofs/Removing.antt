-- A removal keeps the list, store by store: of functions.
use Rattle.std.proofs.Common.{◌≡◌, inl, inr, ℕ, Some, None, List, [], ◌∷◌, ◌++◌, refl, sym, ap, subst, arith, ◌∙◌}
use Rattle.std.specs.declared.option.Option.{Option}
use Rattle.std.proofs.lemmas.List.{append_assoc}
use Rattle.word_codes.specs.Links.{link_of}
use Rattle.locked_chain.specs.declared.remove.RemoveAt.{RemoveAt}
use Rattle.locked_chain.specs.Remove.{remove_learn, skip_back}
use Rattle.word_laws.specs.Memory.{put}
use Rattle.chain_laws.specs.Chains.{Link, IsChain, tally, IsOnce}
use Rattle.chain_laws.specs.Chains.Link.{To, Ends}
use Rattle.chain_laws.proofs.CallerLemmas.{tally-here, tally-append, leads-split, link_joins_chains}
use Rattle.chain_laws.proofs.CallerLemmas.{chains_have_no_repeats}
use Rattle.lock_laws.specs.Lists.{TwoWay, nothing, LeadsBack, last_of, BackFits, IsList}
use Rattle.lock_laws.specs.Lists.Change.{Still, CutForward}
use Rattle.lock_laws.specs.Steps.{link_to, link_at, skip_list, remove_list, Removes, AfterRemove}
use Rattle.lock_laws.proofs.Back.{back-at, back-short, back-out, last_split}

-- what a look finds is where the link leads
abbrev pub Sees : TwoWay → ℕ → ℕ → RemoveAt → Type 0
Sees w x found RemoveAt.Forward = link_at found ≡ w.next x
Sees w x found (RemoveAt.Backward forward) = link_at found ≡ w.previous x
Sees w x found (RemoveAt.Skip forward backward) = Unit {0}
Sees w x found (RemoveAt.SkipBack behind backward) = Unit {0}

-- an item of a list without repeats is in no other place
pub once-apart : (front : List ℕ) (x : ℕ) (back : List ℕ) → IsOnce (front ++ (x ∷ back))
    → (tally x front ≡ 0) × (tally x back ≡ 0)
once-apart front x back once =
    let o = once x in let a = tally-append x front (x ∷ back) in let h = tally-here x back in
    (omega arith, omega arith)

-- the links forward of a list whose item is skipped
pub skips : (w : TwoWay) (front : List ℕ) (x : ℕ) (back : List ℕ) (before : Option ℕ) (behind : Link)
    → behind ≡ w.next x → link_to before ≡ last_of nothing front
    → IsChain w.next w.head (front ++ (x ∷ back)) 0
    → IsChain (skip_list before behind w).next (skip_list before behind w).head (front ++ back) 0
skips w front x back before behind is last chain = elim (last_split front) [
  | inl none ↦ first before (last ∙ ap (λ xs. last_of nothing xs) none) none
  | inr (init, y, ends, ends_at) ↦ later before init y ends (last ∙ ends_at nothing)
]
  where
    rest : IsChain w.next behind back 0
    rest = subst (λ l. IsChain w.next l back 0) (sym is) (leads-split w.next w.head front x back (Ends 0) chain).1

    first : (b : Option ℕ) → link_to b ≡ nothing → front ≡ []
        → IsChain (skip_list b behind w).next (skip_list b behind w).head (front ++ back) 0
    first (Some y) says none = absurd (cc)
    first None says none = subst (λ xs. IsChain w.next behind (xs ++ back) 0) (sym none) rest

    later : (b : Option ℕ) (init : List ℕ) (y : ℕ) → front ≡ init ++ (y ∷ []) → link_to b ≡ To y
        → IsChain (skip_list b behind w).next (skip_list b behind w).head (front ++ back) 0
    later None init y ends says = absurd (cc)
    later (Some z) init y ends says =
        let same : z ≡ y = cc in
        let whole : front ++ (x ∷ back) ≡ init ++ (y ∷ (x ∷ back)) =
        ap (λ xs. xs ++ (x ∷ back)) ends ∙ append_assoc init (y ∷ []) (x ∷ back) in
        let cut : front ++ back ≡ init ++ (y ∷ back) = ap (λ xs. xs ++ back) ends ∙ append_assoc init (y ∷ []) back in
        let alone = once-apart init y (x ∷ back)
        (subst (λ xs. IsOnce xs) whole (chains_have_no_repeats w.next w.head (front ++ (x ∷ back)) 0 chain)) in
        let gone : tally y back ≡ 0 = let a = alone.1 in omega arith in
        subst (λ v. IsChain (put w.next v behind) w.head (front ++ back) 0) (sym same)
        (subst (λ xs. IsChain (put w.next y behind) w.head xs 0) (sym cut)
        (link_joins_chains w.next w.head behind init y (x ∷ back) back 0 0 alone.0 gone
        (subst (λ xs. IsChain w.next w.head xs 0) whole chain) rest))

skip_list-previous : (b : Option ℕ) (behind : Link) (w : TwoWay) → (skip_list b behind w).previous ≡ w.previous
skip_list-previous (Some before) behind w = refl
skip_list-previous None behind w = refl

pub removes : (w : TwoWay) (front : List ℕ) (x : ℕ) (back : List ℕ) (at : RemoveAt) (found : ℕ)
    → Sees w x found at → Removes w front x back at
    → AfterRemove (remove_list at w) front x back (remove_learn at found)
removes w front x back RemoveAt.Forward found sees here = record { list = here.list; noted = sees }
removes w front x back (RemoveAt.Backward forward) found sees here =
    record { list = here.list; noted = (here.noted, sees) }
removes w front x back (RemoveAt.Skip forward backward) found sees here = by (link_of forward) refl back here.list
  where
    before : (back : List ℕ) → IsList w Still (front ++ (x ∷ back)) → link_at backward ≡ last_of nothing front
    before back list = here.noted.1 ∙ back-at w.previous nothing front x back list.backward

    ahead : (back : List ℕ) → IsList w Still (front ++ (x ∷ back))
        → IsChain (skip_list (link_of backward) (link_at forward) w).next
        (skip_list (link_of backward) (link_at forward) w).head (front ++ back) 0
    ahead back list =
        skips w front x back (link_of backward) (link_at forward) here.noted.0 (before back list) list.forward

    behind_is : (back : List ℕ) → IsList w Still (front ++ (x ∷ back)) → IsChain w.next (link_at forward) back 0
    behind_is back list = subst (λ l. IsChain w.next l back 0) (sym here.noted.0)
        (leads-split w.next w.head front x back (Ends 0) list.forward).1

    by : (behind : Option ℕ) → link_of forward ≡ behind → (back : List ℕ)
        → IsList w Still (front ++ (x ∷ back))
        → AfterRemove (skip_list (link_of backward) (link_at forward) w) front x back (skip_back backward behind)
    by None is [] list = record {
      forward = ahead [] list;
      backward = subst (λ (f : ℕ → Link). LeadsBack f nothing (front ++ []))
          (sym (skip_list-previous (link_of backward) (link_at forward) w))
          (back-short w.previous nothing front x list.backward);
    }
    by None is (y ∷ ys) list =
        let b = behind_is (y ∷ ys) list in
        let q : nothing ≡ To y = sym (ap link_to is) ∙ b.0 in absurd (cc)
    by (Some behind) is [] list =
        let q : To behind ≡ nothing = sym (ap link_to is) ∙ behind_is [] list in absurd (cc)
    by (Some behind) is (y ∷ ys) list =
        let b = behind_is (y ∷ ys) list in
        let q : To behind ≡ To y = sym (ap link_to is) ∙ b.0 in
        let same : behind ≡ y = cc in
        record {
          list = record {
            forward = ahead (y ∷ ys) list;
            backward = (
              front,
              ys,
              ap (λ z. front ++ (z ∷ ys)) (sym same),
              sym (before (y ∷ ys) list),
              subst (λ (f : ℕ → Link). LeadsBack f nothing (front ++ (x ∷ (behind ∷ ys))))
                  (sym (skip_list-previous (link_of backward) (link_at forward) w))
                  (subst (λ z. LeadsBack w.previous nothing (front ++ (x ∷ (z ∷ ys)))) (sym same) list.backward),
            );
          };
          noted = tt;
        }
removes w front x back (RemoveAt.SkipBack behind backward) found sees here = by here.list.backward
  where
    by : BackFits w.previous (CutForward x behind (link_at backward)) (front ++ back)
        → IsList (record w { previous = put w.previous behind (link_at backward) }) Still (front ++ back)
    by (init, rest, is, last, leads) =
        let alone = once-apart init behind rest
        (subst (λ xs. IsOnce xs) is (chains_have_no_repeats w.next w.head (front ++ back) 0 here.list.forward)) in
        record {
          forward = here.list.forward;
          backward = subst (λ xs. LeadsBack (put w.previous behind (link_at backward)) nothing xs) (sym is)
              (subst (λ l. LeadsBack (put w.previous behind l) nothing (init ++ (behind ∷ rest))) last
              (back-out w.previous nothing init x behind rest alone.0 alone.1 leads));
        }
