-- Lists of objects by their grants, where one comes behind the others.
use Rattle.std.proofs.Common.{◌≡◌, ◌⊎◌, inl, inr, ℕ, zero, suc, ◌+◌, ◌<◌, List, [], ◌∷◌, ◌++◌, length}
use Rattle.std.proofs.Common.{refl, sym, ap, subst, ◌∙◌, arith, length-append}
use Rattle.std.specs.Prelude.{Some}
use Rattle.pool_types.specs.declared.values.Grant.{Grant}
use Rattle.word_codes.specs.Marks.{mark_of}
use Rattle.word_laws.specs.Memory.{put}
use Rattle.word_laws.proofs.CallerLemmas.{each, less_or}
use Rattle.step_local.specs.declared.frames.Object.{Object}
use Rattle.step_grants.specs.Grants.{IsAt, IsMade, AreApart, marked, grant_in, InOrder, EndOnce}
use Rattle.step_grants.proofs.Apart.{Comes, made_still, not_new, stays_gone}
use Rattle.step_grants.proofs.Writes.{Loses}

-- what is in the list with one more was in it, or is that one
pub added : (xs : List Object) (x : Object) (i : ℕ) (grant : Grant) → grant_in (xs ++ x ∷ []) i ≡ Some grant
    → (grant_in xs i ≡ Some grant) ⊎ ((i ≡ length xs) × (marked (mark_of x.mark) ≡ Some grant))
added [] x zero grant e = inr (refl, e)
added [] x (suc i) grant e = absurd (cc)
added (y ∷ ys) x zero grant e = inl e
added (y ∷ ys) x (suc i) grant e = by (added ys x i grant e)
  where
    by : (grant_in ys i ≡ Some grant) ⊎ ((i ≡ length ys) × (marked (mark_of x.mark) ≡ Some grant))
        → (grant_in ys i ≡ Some grant) ⊎ ((suc i ≡ length (y ∷ ys)) × (marked (mark_of x.mark) ≡ Some grant))
    by (inl was) = inl was
    by (inr new) = inr (ap suc new.0, new.1)

stays_in : (xs : List Object) (x : Object) (i : ℕ) (grant : Grant) → grant_in xs i ≡ Some grant
    → grant_in (xs ++ x ∷ []) i ≡ Some grant
stays_in [] x i grant e = absurd (cc)
stays_in (y ∷ ys) x zero grant e = e
stays_in (y ∷ ys) x (suc i) grant e = stays_in ys x i grant e

last_in : (xs : List Object) (x : Object) → grant_in (xs ++ x ∷ []) (length xs) ≡ marked (mark_of x.mark)
last_in [] x = refl
last_in (y ∷ ys) x = last_in ys x

within : (xs : List Object) (i : ℕ) (grant : Grant) → grant_in xs i ≡ Some grant → i < length xs
within [] i grant e = absurd (cc)
within (y ∷ ys) zero grant e = omega arith
within (y ∷ ys) (suc i) grant e = let low = within ys i grant e in omega arith

one_more : (xs : List Object) (x : Object) → length (xs ++ x ∷ []) ≡ length xs + 1
one_more xs x = let n = length-append xs (x ∷ []) in omega arith

-- no two grants of a seat have one number
pub same_place : (seat last : ℕ) (grants : List Object) → InOrder seat last grants → (i : ℕ) (grant : Grant)
    → grant_in grants i ≡ Some grant → grant ≡ record { seat = seat; number = i + 1 }
same_place seat last grants order i grant e =
    let low = within grants i grant e in
    let is = order.each i (let n = order.count in omega arith) in
    cc

-- the next grant comes behind the others
pub order_more : (seat last : ℕ) (grants : List Object) (x : Object)
    → marked (mark_of x.mark) ≡ Some (record { seat = seat; number = last + 1 }) → InOrder seat last grants
    → InOrder seat (last + 1) (grants ++ x ∷ [])
order_more seat last grants x names order = record {
  count = let n = one_more grants x in let m = order.count in omega arith;
  each = λ i low. less_or i last
      (λ below. stays_in grants x i (record { seat = seat; number = i + 1 }) (order.each i below))
      (λ high. by i (let e : i ≡ last = omega arith in e));
}
  where
    by : (i : ℕ) → i ≡ last → grant_in (grants ++ x ∷ []) i ≡ Some (record { seat = seat; number = i + 1 })
    by i same =
        subst (λ (n : ℕ). grant_in (grants ++ x ∷ []) n ≡ Some (record { seat = seat; number = n + 1 })) (sym same)
        (subst (λ (n : ℕ). grant_in (grants ++ x ∷ []) n ≡ Some (record { seat = seat; number = last + 1 }))
        order.count (last_in grants x ∙ names))

module _ (seats : ℕ) (marks lasts marks' lasts' : ℕ → ℕ) (comes : Comes seats marks lasts marks' lasts')
    (frees : ℕ → List Object) (once : EndOnce seats marks lasts frees) where
  still : (seat i : ℕ) (grant : Grant) → grant_in (frees seat) i ≡ Some grant → (u : ℕ) → IsAt marks' grant u → ⊥
  still seat i grant e =
      stays_gone seats marks lasts marks' lasts' comes grant (once.made seat i grant e) (once.gone seat i grant e)

  -- a step that ends no grant
  pub end_stays : EndOnce seats marks' lasts' frees
  end_stays = record {
    all = once.all;
    made = λ seat i grant e. made_still seats marks lasts marks' lasts' comes grant (once.made seat i grant e);
    gone = still;
    once = once.once;
  }

  module _ (apart : AreApart seats marks lasts) (seat : ℕ) (x : Object) (loses : Loses marks marks' x) where
    abbrev pub more : ℕ → List Object
    more = put frees seat (frees seat ++ x ∷ [])

    lost_made : IsMade seats lasts loses.grant
    lost_made = apart.made loses.unit loses.grant loses.there

    -- the grant is at no mark now
    lost_gone : (u : ℕ) → IsAt marks' loses.grant u → ⊥
    lost_gone u is = by (comes.came u loses.grant is)
      where
        by : IsAt marks loses.grant u
            ⊎ ((u ≡ comes.unit) × (loses.grant ≡ comes.grant) × IsMade seats lasts' loses.grant) → ⊥
        by (inl was) =
            let same = apart.one u loses.unit loses.grant was loses.there in
            loses.left loses.grant (subst (IsAt marks' loses.grant) same is)
        by (inr new) = not_new seats marks lasts marks' lasts' comes loses.grant lost_made new.1

    -- what is in the lists now was there, or is this one
    abbrev WasOrIs : ℕ → ℕ → Grant → Type 0
    WasOrIs o i grant = (grant_in (frees o) i ≡ Some grant)
        ⊎ ((o ≡ seat) × (i ≡ length (frees seat)) × (grant ≡ loses.grant))

    was_or_is : (o i : ℕ) (grant : Grant) → grant_in (more o) i ≡ Some grant → WasOrIs o i grant
    was_or_is o i grant = each (λ o xs. grant_in xs i ≡ Some grant → WasOrIs o i grant) frees seat
        (frees seat ++ x ∷ []) (λ o ne e. inl e) (λ e. by (added (frees seat) x i grant e)) o
      where
        by : (grant_in (frees seat) i ≡ Some grant)
            ⊎ ((i ≡ length (frees seat)) × (marked (mark_of x.mark) ≡ Some grant)) → WasOrIs seat i grant
        by (inl was) = inl was
        by (inr new) = inr (refl, new.0, let is = ap marked loses.names in let e = new.1 in cc)

    made_more : (o i : ℕ) (grant : Grant) → WasOrIs o i grant → IsMade seats lasts' grant
    made_more o i grant (inl was) =
        made_still seats marks lasts marks' lasts' comes grant (once.made o i grant was)
    made_more o i grant (inr new) = subst (IsMade seats lasts') (sym new.2)
        (made_still seats marks lasts marks' lasts' comes loses.grant lost_made)

    gone_more : (o i : ℕ) (grant : Grant) → WasOrIs o i grant → (u : ℕ) → IsAt marks' grant u → ⊥
    gone_more o i grant (inl was) = still o i grant was
    gone_more o i grant (inr new) =
        subst (λ (g : Grant). (u : ℕ) → IsAt marks' g u → ⊥) (sym new.2) lost_gone

    -- what was ended is not this one
    not_again : (o i : ℕ) (grant : Grant) → grant_in (frees o) i ≡ Some grant → grant ≡ loses.grant → ⊥
    not_again o i grant was same =
        once.gone o i grant was loses.unit (subst (λ (g : Grant). IsAt marks g loses.unit) (sym same) loses.there)

    once_more : (o i p j : ℕ) (grant : Grant) → WasOrIs o i grant → WasOrIs p j grant → (o ≡ p) × (i ≡ j)
    once_more o i p j grant (inl was) (inl there) = once.once o i p j grant was there
    once_more o i p j grant (inl was) (inr new) = absurd (not_again o i grant was new.2)
    once_more o i p j grant (inr new) (inl there) = absurd (not_again p j grant there new.2)
    once_more o i p j grant (inr new) (inr other) = (new.0 ∙ sym other.0, new.1 ∙ sym other.1)

    abbrev HasGrant : List Object → Type 0
    HasGrant xs = (i : ℕ) → i < length xs → (grant : Grant) × (grant_in xs i ≡ Some grant)

    all_here : HasGrant (frees seat ++ x ∷ [])
    all_here i low = less_or i (length (frees seat))
        (λ below. let had = once.all seat i below in (had.0, stays_in (frees seat) x i had.0 had.1))
        (λ high. (
          loses.grant,
          subst (λ (n : ℕ). grant_in (frees seat ++ x ∷ []) n ≡ Some loses.grant)
              (let n = one_more (frees seat) x in let e : length (frees seat) ≡ i = omega arith in e)
              (last_in (frees seat) x ∙ ap marked loses.names),
        ))

    -- a step that ends one
    pub end_more : EndOnce seats marks' lasts' more
    end_more = record {
      all = each (λ o xs. HasGrant xs) frees seat (frees seat ++ x ∷ []) (λ o ne. once.all o) all_here;
      made = λ o i grant e. made_more o i grant (was_or_is o i grant e);
      gone = λ o i grant e. gone_more o i grant (was_or_is o i grant e);
      once = λ o i p j grant e there. once_more o i p j grant (was_or_is o i grant e) (was_or_is p j grant there);
    }
