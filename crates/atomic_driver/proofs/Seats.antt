-- How seats are cut off a place.
use Rattle.std.proofs.Common.{◌≡◌, ◌≢◌, ◌⊎◌, ℕ, zero, suc, ◌+◌, ◌<◌, Bool, List, [], ◌∷◌}
use Rattle.std.proofs.Common.{◌++◌, length, length-set, replicate, refl, sym, ap, ◌∙◌, subst, inl, ⊎_elim, arith}
use Rattle.std.specs.Prelude.{Option, Some, None, slice_set}
use mathlib.Core.Option as maybe
use mathlib.Core.Option.{some, some-injective, some-ne-none}
use lib.ListN.{get_elem?}
use Rattle.atomic_table.specs.Table.{State, Me, Act, Allows, Splits, Joins}
use Rattle.atomic_table.proofs.Lists.{at_set}
use Rattle.pool_words.specs.declared.words.Key.{Key}
use Rattle.pool_words.specs.Words.{words_of}
use Rattle.word_laws.specs.Memory.{put}
use Rattle.word_laws.proofs.CallerLemmas.{put_here, put_else}
use Rattle.step_runs.specs.declared.entry.Entry.{Entry}
use Rattle.step_runs.specs.Entries.{first_entry}
use Rattle.step_runs.specs.Runs.{Callback, Run}
use Rattle.step_runs.specs.Runs.Run.{opened}
use Rattle.atomic_driver.specs.declared.rule.Note.{Note}
use Rattle.atomic_driver.specs.declared.rule.View.{View}
use Rattle.atomic_driver.specs.Rule.{Rule, Tied, IsTied, Noted, IsNoted, home_of, plain, first_entries, first_view}
use Rattle.pool_types.specs.Policies.{IsAllowed}
use Rattle.pool_types.specs.declared.policy.Limits.{Limits}
use Rattle.pool_types.specs.declared.policy.Policy.{Policy}
use Rattle.pool_types.specs.declared.raw.Raw.{Ghosts}
use Rattle.pool_types.specs.declared.values.Region.{Region}
use Rattle.atomic_table.specs.Seated.{TableId}
use Rattle.atomic_driver.specs.declared.rule.Plan.{Plan}
use Rattle.atomic_driver.specs.declared.pool.Shared.{Shared}
use Rattle.atomic_driver.specs.declared.seat.DriverSeat.{DriverSeat}
use Rattle.atomic_driver.specs.Seating.{IsFrom, others_of, IsSeat, AreSeats, HasSeats, HasOwn}
use Rattle.atomic_driver.specs.Steps.{own_of}
use Rattle.atomic_driver.proofs.Allowed.{no_note, in_slot_by}
use Rattle.atomic_driver.proofs.Looks.{at_end}

pub noteless : {D : Type 0} (v : View D) (es : List (Entry D)) (note : Note D) → plain es ≡ v → v.note ≡ Some note
    → ⊥
noteless v es note is e = no_note (plain es) v note is refl e

-- the first entry, where there is one
pub own_same : {D : Type 0} (k other : Key) (es : List (Entry D)) → 0 < length es → own_of other es ≡ own_of k es
own_same k other [] some_ = absurd (omega arith)
own_same k other (e ∷ es) some_ = refl

-- the entries of the first seats of a new pool
first_at : {D : Type 0} (k : Key) (seat n j : ℕ) (e : Entry D) → get_elem? (first_entries k seat n) j ≡ some e
    → (first_entry k (seat + j) ≡ e) × (j < n)
first_at k seat zero j e at = absurd (some-ne-none e (sym at))
first_at {D} k seat (suc n) zero e at =
    (ap (λ (x : ℕ). first_entry {D = D} k x) (omega arith) ∙ some-injective (first_entry k seat) e at, omega arith)
first_at {D} k seat (suc n) (suc j) e at =
    let r = first_at k (suc seat) n j e at in
    let low = r.1 in
    (ap (λ (x : ℕ). first_entry {D = D} k x) (omega arith) ∙ r.0, omega arith)

pub first_from : {D : Type 0} (k : Key) (seat n : ℕ) → IsFrom {D = D} seat (first_entries k seat n)
first_from k seat n i e at = ap (λ (x : Entry _). x.seat) (sym (first_at k seat n i e at).0)

module _ {D : Type 0} (c : Callback D) (k : Key) (IsFirst : D → Type 0) where
  abbrev pub rule_at : State (Option D) (View D) → Type 0
  rule_at s = Rule c k IsFirst s.words (home_of s.homes) s.views

  -- the rule holds of a new pool
  pub opens : (first : D) → IsFirst first
      → Rule c k IsFirst (replicate (words_of k) 0) (Some first) (first_view k ∷ [])
  opens first is = record {
    first = first;
    is_first = is;
    home = Some first;
    lies = inl refl;
    all = first_entry k;
    owner = λ _. 0;
    run = opened;
    others = λ seat high. refl;
    tied = tied_first;
    noted = noted_first;
  }
    where
      tied_first : (id : ℕ) (v : View D) (j : ℕ) (e : Entry D) → get_elem? (first_view k ∷ []) id ≡ some v
          → get_elem? v.entries j ≡ some e → IsTied k (first_entry k) (λ _. 0) id e
      tied_first zero v j e at at_e =
          let r = first_at k 0 k.seats j e
          (subst (λ (y : View D). get_elem? y.entries j ≡ some e) (sym (some-injective (first_view k) v at)) at_e) in
          let low = r.1 in
          let seat_is : e.seat ≡ 0 + j = ap (λ (x : Entry D). x.seat) (sym r.0) in
          record { owned = refl; entry = ap (first_entry k) seat_is ∙ r.0; low = omega arith }
      tied_first (suc id) v j e at at_e = absurd (some-ne-none v (sym at))

      noted_first : (id : ℕ) (v : View D) (note : Note D) → get_elem? (first_view k ∷ []) id ≡ some v
          → v.note ≡ Some note → IsNoted k (replicate (words_of k) 0) (Some first) (λ _. 0) id note
      noted_first zero v note at e =
          absurd (noteless v (first_entries k 0 k.seats) note (some-injective (first_view k) v at) e)
      noted_first (suc id) v note at e = absurd (some-ne-none v (sym at))

  -- the first seat's entry is cut off
  pub splits : (id : ℕ) (e : Entry D) (es : List (Entry D)) → IsFrom e.seat (e ∷ es)
      → Splits rule_at id (plain (e ∷ es)) (plain es) (plain (e ∷ []))
  splits id e es row s r at =
      let mine = r.tied id (plain (e ∷ es)) 0 e at refl in
      let new = length s.views in
      let same : length (slice_set s.views id (plain es)) ≡ length s.views = length-set s.views id (plain es) in
      record {
        first = r.first;
        is_first = r.is_first;
        home = r.home;
        lies = inl (in_slot_by c k IsFirst s.words (home_of s.homes) s.views r id (plain (e ∷ es)) 0 e at refl refl);
        all = r.all;
        owner = put r.owner e.seat new;
        run = r.run;
        others = r.others;
        tied = λ id2 v j x at_v at_x. ⊎_elim
            (λ (z : (get_elem? (slice_set s.views id (plain es)) id2 ≡ some v)
            × (id2 < length (slice_set s.views id (plain es)))). ⊎_elim
            (λ (here : (id2 ≡ id) × (plain es ≡ v)).
            let at_es = subst (λ (y : View D). get_elem? y.entries j ≡ some x) (sym here.1) at_x in
            let old = r.tied id (plain (e ∷ es)) (suc j) x at at_es in
            let seat_is = row (suc j) x at_es in
            record {
              owned = put_else r.owner e.seat x.seat new (λ (q : e.seat ≡ x.seat). omega arith) ∙ old.owned ∙ sym here.0;
              entry = old.entry;
              low = old.low;
            })
            (λ (there : (id2 ≢ id) × (get_elem? s.views id2 ≡ some v)).
            let old = r.tied id2 v j x there.1 at_x in
            record {
              owned = put_else r.owner e.seat x.seat new
                  (λ (q : e.seat ≡ x.seat). there.0 (sym old.owned ∙ ap r.owner (sym q) ∙ mine.owned)) ∙ old.owned;
              entry = old.entry;
              low = old.low;
            })
            (at_set s.views id id2 (plain es) v z.0))
            (λ (z : (id2 ≡ length (slice_set s.views id (plain es))) × (plain (e ∷ []) ≡ v)).
            let is_e : e ≡ x = only e j x (subst (λ (y : View D). get_elem? y.entries j ≡ some x) (sym z.1) at_x) in
            subst (λ (y : Entry D). IsTied k r.all (put r.owner e.seat new) id2 y) is_e (record {
              owned = put_here r.owner e.seat e.seat new refl ∙ sym (z.0 ∙ same);
              entry = mine.entry;
              low = mine.low;
            }))
            (at_end (slice_set s.views id (plain es)) (plain (e ∷ [])) id2 v at_v);
        noted = λ id2 v words at_v is_note. ⊎_elim
            (λ (z : (get_elem? (slice_set s.views id (plain es)) id2 ≡ some v)
            × (id2 < length (slice_set s.views id (plain es)))). ⊎_elim
            (λ (here : (id2 ≡ id) × (plain es ≡ v)). absurd (noteless v es words here.1 is_note))
            (λ (there : (id2 ≢ id) × (get_elem? s.views id2 ≡ some v)).
            let old = r.noted id2 v words there.1 is_note in
            absurd (there.0 (sym (old.owns e.seat mine.low) ∙ mine.owned)))
            (at_set s.views id id2 (plain es) v z.0))
            (λ (z : (id2 ≡ length (slice_set s.views id (plain es))) × (plain (e ∷ []) ≡ v)).
            absurd (noteless v (e ∷ []) words z.1 is_note))
            (at_end (slice_set s.views id (plain es)) (plain (e ∷ [])) id2 v at_v);
      }
    where
      only : (e : Entry D) (j : ℕ) (x : Entry D) → get_elem? (e ∷ []) j ≡ some x → e ≡ x
      only e zero x at = some-injective e x at
      only e (suc j) x at = absurd (some-ne-none x (sym at))

  pub splits_view : (other : Key) (id seat : ℕ) (v : View D) → v.note ≡ None → IsFrom seat v.entries
      → 0 < length v.entries → Splits rule_at id v (plain (others_of v.entries)) (plain (own_of other v.entries ∷ []))
  splits_view other id seat v bare row some_ = by v.entries refl row some_
    where
      by : (es : List (Entry D)) → v.entries ≡ es → IsFrom seat es → 0 < length es
          → Splits rule_at id v (plain (others_of es)) (plain (own_of other es ∷ []))
      by [] is row some_ = absurd (omega arith)
      by (e ∷ es) is row some_ =
          let at : e.seat ≡ seat = row 0 e refl ∙ omega arith in
          let from : IsFrom e.seat (e ∷ es) = λ i x at_x. row i x at_x ∙ ap (λ (z : ℕ). z + i) (sym at) in
          subst (λ (z : View D). Splits rule_at id z (plain es) (plain (e ∷ [])))
          (λ x. record { entries = sym is x; note = sym bare x }) (splits id e es from)

-- the spare place before one more seat is cut off
pub record AtLeft {D : Type 0} (k : Key) (seat left : ℕ) (entries : List (Entry D)) : Type 0 where
  pub row : IsFrom seat entries
  pub some_ : 0 < length entries
  pub first : own_of k entries ≡ first_entry k seat
  pub rest : ℕ
  pub left_is : left ≡ suc rest
  pub others : others_of entries ≡ first_entries k (seat + 1) rest

pub at_left : {D : Type 0} (k : Key) (seat left : ℕ) (me : Me (Option D) (View D))
    → me ≡ (plain (first_entries k seat left), []) → 0 < left → AtLeft k seat left me.0.entries
at_left {D} k seat left me is some_ = subst (AtLeft {D = D} k seat left) (sym (ap (λ z. z.0.entries) is)) (by left some_)
  where
    by : (n : ℕ) → 0 < n → AtLeft {D = D} k seat n (first_entries k seat n)
    by zero some_ = absurd (omega arith)
    by (suc n) some_ = record {
      row = first_from k seat (suc n);
      some_ = omega arith;
      first = refl;
      rest = n;
      left_is = refl;
      others = ap (λ (x : ℕ). first_entries k x n) (omega arith);
    }

module _ {R : Type 0} (out : R → List Region) (faults : R → ℕ) (got : R → ℕ → Option Region → R → Type 0)
    (passed : R → Region → Bool → R → Type 0) where
  -- one seat more
  pub seats_more : {raw : Ghosts R} (table : TableId) (plan : Plan) (xs : List (DriverSeat R raw)) (n : ℕ)
      (x : DriverSeat R raw) → AreSeats out faults got passed table plan xs → n ≡ length xs
      → IsSeat out faults got passed table plan n x → AreSeats out faults got passed table plan (xs ++ (x ∷ []))
  seats_more {raw} table plan xs n x are count is i y at = ⊎_elim
      (λ (z : (get_elem? xs i ≡ some y) × (i < length xs)). are i y z.0)
      (λ (z : (i ≡ length xs) × (x ≡ y)).
      subst (λ (w : DriverSeat R raw). IsSeat out faults got passed table plan i w) z.1
      (subst (λ (m : ℕ). IsSeat out faults got passed table plan m x) (count ∙ sym z.0) is))
      (at_end xs x i y at)

  -- the seats of a new pool have their places
  pub own_seats : {raw : Ghosts R} (s : Shared R) (xs : List (DriverSeat R raw)) → HasSeats out faults got passed s xs
      → HasOwn out faults got passed s xs
  own_seats s xs has = record {
    count = has.count;
    each = λ i x at.
        let seat = has.each i x at in
        record {
          same_table = seat.same_table;
          same_plan = seat.same_plan;
          entry = seat.entry;
          driven = seat.driven;
        };
  }
