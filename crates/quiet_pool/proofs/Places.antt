-- Places that are cut off and taken in keep the rule of the table.
use Rattle.std.proofs.Common.{◌≡◌, ◌≢◌, ◌⊎◌, ℕ, zero, suc, ◌<◌, List, [], ◌∷◌, ◌++◌, length, refl, sym, ap, ◌∙◌}
use Rattle.std.proofs.Common.{subst}
use Rattle.std.proofs.Common.{inl, inr, ⊎_elim}
use Rattle.std.specs.Prelude.{Option, slice_set}
use mathlib.Core.Option.{some, some-injective, some-ne-none}
use lib.ListN.{get_elem?}
use Rattle.atomic_table.specs.Table.{State, Splits, Joins}
use Rattle.atomic_table.proofs.Lists.{at_set, set_else, set_again, at_longer}
use Rattle.pool_words.specs.declared.words.Key.{Key}
use Rattle.word_laws.specs.Memory.{put}
use Rattle.word_laws.proofs.CallerLemmas.{put_here, put_else}
use Rattle.step_runs.specs.declared.entry.Entry.{Entry}
use Rattle.step_runs.specs.Runs.{Callback}
use Rattle.atomic_driver.specs.declared.rule.View.{View}
use Rattle.atomic_driver.specs.Rule.{Rule, Tied, IsTied, Noted, HasNote, home_of, plain}
use Rattle.atomic_driver.proofs.CallerLemmas.{at_end, in_slot_by, noteless}

module _ {D : Type 0} (c : Callback D) (k : Key) (IsFirst : D → Type 0) where
  abbrev pub rule_at : State (Option D) (View D) → Type 0
  rule_at s = Rule c k IsFirst s.words (home_of s.homes) s.views

  -- the rule, with one view more that knows nothing
  one_more : (words : List ℕ) (slot : Option D) (views : List (View D)) → Rule c k IsFirst words slot views
      → Rule c k IsFirst words slot (views ++ plain [] ∷ [])
  one_more words slot views r = record {
    first = r.first;
    is_first = r.is_first;
    home = r.home;
    lies = ⊎_elim
        (λ (here : slot ≡ r.home). inl here)
        (λ (there : HasNote views). inr (record {
          id = there.id;
          view = there.view;
          note = there.note;
          at = at_longer views (plain [] ∷ []) there.id there.view there.at;
          noted = there.noted;
        }))
        r.lies;
    all = r.all;
    owner = r.owner;
    run = r.run;
    others = r.others;
    tied = λ id v j e at_v at_e. ⊎_elim
        (λ (z : (get_elem? views id ≡ some v) × (id < length views)). r.tied id v j e z.0 at_e)
        (λ (z : (id ≡ length views) × (plain [] ≡ v)).
        absurd (some-ne-none e (sym (subst (λ (y : View D). get_elem? y.entries j ≡ some e) (sym z.1) at_e))))
        (at_end views (plain []) id v at_v);
    noted = λ id v note at_v is_note. ⊎_elim
        (λ (z : (get_elem? views id ≡ some v) × (id < length views)). r.noted id v note z.0 is_note)
        (λ (z : (id ≡ length views) × (plain [] ≡ v)). absurd (noteless v [] note z.1 is_note))
        (at_end views (plain []) id v at_v);
  }

  -- a place that knows nothing is cut off
  pub splits_nothing : (id : ℕ) (v : View D) → Splits rule_at id v v (plain [])
  splits_nothing id v s r at =
      subst (λ (views : List (View D)). Rule c k IsFirst s.words (home_of s.homes) (views ++ plain [] ∷ []))
      (sym (set_again s.views id v at)) (one_more s.words (home_of s.homes) s.views r)

  only : (e : Entry D) (j : ℕ) (x : Entry D) → get_elem? (e ∷ []) j ≡ some x → e ≡ x
  only e zero x at = some-injective e x at
  only e (suc j) x at = absurd (some-ne-none x (sym at))

  at_both : (l r : List (Entry D)) (j : ℕ) (b : Entry D) → get_elem? (l ++ r) j ≡ some b
      → (get_elem? l j ≡ some b) ⊎ ((i : ℕ) × (get_elem? r i ≡ some b))
  at_both [] r j b e = inr (j, e)
  at_both (x ∷ xs) r zero b e = inl e
  at_both (x ∷ xs) r (suc j) b e = at_both xs r j b e

  -- a place takes in the one seat of another
  module _ (id : ℕ) (es : List (Entry D)) (other : ℕ) (e : Entry D) (s : State (Option D) (View D))
      (r : Rule c k IsFirst s.words (home_of s.homes) s.views) (at : get_elem? s.views id ≡ some (plain es))
      (apart : other ≢ id)
      (at_other : get_elem? (slice_set s.views id (plain (es ++ e ∷ []))) other ≡ some (plain (e ∷ []))) where
    abbrev now : View D
    now = plain (es ++ e ∷ [])

    old_other : get_elem? s.views other ≡ some (plain (e ∷ []))
    old_other = sym (set_else s.views id other now apart) ∙ at_other

    theirs : IsTied k r.all r.owner other e
    theirs = r.tied other (plain (e ∷ [])) 0 e old_other refl

    from_mine : (id2 j : ℕ) (x : Entry D) → id2 ≡ id → get_elem? es j ≡ some x
        → IsTied k r.all (put r.owner e.seat id) id2 x
    from_mine id2 j x here at_x =
        let old = r.tied id (plain es) j x at at_x in
        record {
          owned = put_else r.owner e.seat x.seat id
              (λ (q : e.seat ≡ x.seat). apart (sym theirs.owned ∙ ap r.owner q ∙ old.owned)) ∙ old.owned ∙ sym here;
          entry = old.entry;
          low = old.low;
        }

    from_other : (id2 i : ℕ) (x : Entry D) → id2 ≡ id → get_elem? (e ∷ []) i ≡ some x
        → IsTied k r.all (put r.owner e.seat id) id2 x
    from_other id2 i x here at_x =
        subst (IsTied k r.all (put r.owner e.seat id) id2) (only e i x at_x) (record {
          owned = put_here r.owner e.seat e.seat id refl ∙ sym here;
          entry = theirs.entry;
          low = theirs.low;
        })

    tied_now : Tied k r.all (put r.owner e.seat id) (slice_set (slice_set s.views id now) other (plain []))
    tied_now id2 v j x at_v at_x = ⊎_elim
        (λ (spent : (id2 ≡ other) × (plain [] ≡ v)).
        absurd (some-ne-none x (sym (subst (λ (y : View D). get_elem? y.entries j ≡ some x) (sym spent.1) at_x))))
        (λ (z : (id2 ≢ other) × (get_elem? (slice_set s.views id now) id2 ≡ some v)). ⊎_elim
        (λ (here : (id2 ≡ id) × (now ≡ v)). ⊎_elim
        (λ (mine : get_elem? es j ≡ some x). from_mine id2 j x here.0 mine)
        (λ (last : (i : ℕ) × (get_elem? (e ∷ []) i ≡ some x)). from_other id2 last.0 x here.0 last.1)
        (at_both es (e ∷ []) j x (subst (λ (y : View D). get_elem? y.entries j ≡ some x) (sym here.1) at_x)))
        (λ (there : (id2 ≢ id) × (get_elem? s.views id2 ≡ some v)).
        let old = r.tied id2 v j x there.1 at_x in
        record {
          owned = put_else r.owner e.seat x.seat id
              (λ (q : e.seat ≡ x.seat). z.0 (sym old.owned ∙ ap r.owner (sym q) ∙ theirs.owned)) ∙ old.owned;
          entry = old.entry;
          low = old.low;
        })
        (at_set s.views id id2 now v z.1))
        (at_set (slice_set s.views id now) other id2 (plain []) v at_v)

    noted_now : Noted k s.words r.home (put r.owner e.seat id) (slice_set (slice_set s.views id now) other (plain []))
    noted_now id2 v note at_v is_note = ⊎_elim
        (λ (spent : (id2 ≡ other) × (plain [] ≡ v)). absurd (noteless v [] note spent.1 is_note))
        (λ (z : (id2 ≢ other) × (get_elem? (slice_set s.views id now) id2 ≡ some v)). ⊎_elim
        (λ (here : (id2 ≡ id) × (now ≡ v)). absurd (noteless v (es ++ e ∷ []) note here.1 is_note))
        (λ (there : (id2 ≢ id) × (get_elem? s.views id2 ≡ some v)).
        let old = r.noted id2 v note there.1 is_note in
        absurd (z.0 (sym (old.owns e.seat theirs.low) ∙ theirs.owned)))
        (at_set s.views id id2 now v z.1))
        (at_set (slice_set s.views id now) other id2 (plain []) v at_v)

    joins_now : Rule c k IsFirst s.words (home_of s.homes) (slice_set (slice_set s.views id now) other (plain []))
    joins_now = record {
      first = r.first;
      is_first = r.is_first;
      home = r.home;
      lies = inl (in_slot_by c k IsFirst s.words (home_of s.homes) s.views r other (plain (e ∷ [])) 0 e old_other refl
          refl);
      all = r.all;
      owner = put r.owner e.seat id;
      run = r.run;
      others = r.others;
      tied = tied_now;
      noted = noted_now;
    }

  pub joins : (id : ℕ) (es : List (Entry D)) (other : ℕ) (e : Entry D)
      → Joins rule_at id (plain es) other (plain (e ∷ [])) (plain (es ++ e ∷ [])) (plain [])
  joins id es other e s r at apart at_other = joins_now id es other e s r at apart at_other
