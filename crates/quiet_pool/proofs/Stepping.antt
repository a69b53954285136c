-- A step of a quiet pool, as one of its seats, keeps the rule of the table.
use Rattle.std.proofs.Common.{◌≡◌, ◌≢◌, ◌⊎◌, ℕ, ◌≤◌, true, List, length, refl}
use Rattle.std.proofs.Common.{sym, ap}
use Rattle.std.proofs.Common.{◌∙◌, subst, inl, inr, ⊎_elim, arith}
use Rattle.std.specs.Prelude.{Option, Some, None, slice_set, slice_index}
use Rattle.std.proofs.lemmas.List.{set-get_or}
use mathlib.Core.Option.{some}
use lib.ListN.{get_elem?}
use Rattle.atomic_table.specs.Table.{State, Me, Act, Allows}
use Rattle.atomic_table.proofs.Lists.{at_set, set_here}
use Rattle.pool_words.specs.declared.words.Key.{Key}
use Rattle.pool_words.specs.declared.words.Word.{Word}
use Rattle.pool_words.specs.Words.{words_of, index_of}
use Rattle.pool_words.specs.Actions.{finds, after_action}
use Rattle.word_laws.specs.Memory.{put}
use Rattle.word_laws.proofs.CallerLemmas.{put_here, put_else}
use Rattle.step_local.specs.declared.frames.At.{At}
use Rattle.step_local.specs.declared.frames.Local.{Local}
use Rattle.step_local.specs.Course.{course}
use Rattle.step_local.specs.Getting.{is_idle}
use Rattle.step_runs.specs.declared.entry.Entry.{Entry}
use Rattle.step_runs.specs.Places.{has_word, Move, stays, move_of}
use Rattle.step_runs.specs.Entries.{desk_after, learnt}
use Rattle.step_runs.specs.Runs.{Callback, Silent, Run, home_after}
use Rattle.step_runs.specs.Runs.Run.{stepped}
use Rattle.step_runs.proofs.CallerLemmas.{run_stands}
use Rattle.atomic_driver.specs.declared.rule.Note.{Note}
use Rattle.atomic_driver.specs.declared.rule.View.{View}
use Rattle.atomic_driver.specs.Rule.{Rule, Tied, IsTied, Noted, IsNoted, home_of}
use Rattle.atomic_driver.specs.Steps.{word_of, becomes}
use Rattle.atomic_driver.proofs.CallerLemmas.{at_low, word_is, becomes_is, void_leaves}
use Rattle.quiet_laws.specs.Resets.{IsResetting, is_of_reset}
use Rattle.quiet_pool.specs.Noting.{noted}
use Rattle.quiet_pool.specs.Quiet.{MayReset}
use Rattle.quiet_pool.specs.Stepping.{CanStep, entry_at, me_stepped, value_noted, view_stepped}
use Rattle.quiet_pool.proofs.Places.{rule_at}

-- neither between calls nor in a reset does a seat take or give the office
pub stays_by : (at : At) (f : ℕ) → (is_idle at ≡ true) ⊎ (is_of_reset at ≡ true) → move_of at f ≡ stays
stays_by (At.Office job at) f (inl idle) = absurd (cc)
stays_by (At.Office job at) f (inr reset) = absurd (cc)
stays_by _ f may = refl

pub at_of_may : (l : Local) → MayReset l → (is_idle l.at ≡ true) ⊎ (is_of_reset l.at ≡ true)
at_of_may l may = ⊎_elim (λ (idle : is_idle l.at ≡ true). inl idle) (λ (reset : IsResetting l). inr reset.at) may

module _ {D : Type 0} where
  same_note : (a b : Note D) → Some a ≡ Some b → a ≡ b
  same_note a b e = cc

  -- the entry behind a step that leaves the office where it is
  pub learnt_by : (e : Entry D) (l : Local) (home : Option D) (f : ℕ) → move_of l.at f ≡ stays
      → (learnt e l home None f).desk ≡ None
  learnt_by e l home f is = by (move_of l.at f) is
    where
      by : (move : Move) → move ≡ stays → desk_after move home None ≡ None
      by move e = subst (λ (m : Move). desk_after m home None ≡ None) (sym e) refl

  module _ (c : Callback D) (k : Key) (IsFirst : D → Type 0) (id : ℕ) (me : Me (Option D) (View D)) (seat : ℕ)
      (l : Local) (can : CanStep c k seat l me) (word : has_word (course l) ≡ true) (s : State (Option D) (View D))
      (r : Rule c k IsFirst s.words (home_of s.homes) s.views) (at : get_elem? s.views id ≡ some me.0) where
    abbrev note : Note D
    note = can.note

    abbrev es : List (Entry D)
    es = me.0.entries

    abbrev e : Entry D
    e = entry_at k es seat

    mine : IsNoted k s.words r.home r.owner id note
    mine = r.noted id me.0 note at can.is_noted

    tied : IsTied k r.all r.owner id e
    tied = r.tied id me.0 seat e at can.there

    number : e.seat ≡ seat
    number = can.row seat e can.there

    abbrev f : ℕ
    f = finds k s.words (course l)

    abbrev words_now : List ℕ
    words_now = after_action k s.words (course l)

    abbrev after_e : Entry D
    after_e = learnt e l (Some note.office) None f

    abbrev now : View D
    now = noted (slice_set es seat after_e) words_now note.office

    abbrev all_now : ℕ → Entry D
    all_now = put r.all e.seat after_e

    run_now : Run c k r.first words_now r.home all_now
    run_now =
        let same = tied.entry in
        let base = stepped r.run e.seat l None (subst (λ (x : Entry D). Silent c x.local x.desk l None)
        (sym same) can.behind.since) word in
        let home_is : home_after (move_of l.at f) r.home None ≡ r.home =
        ap (λ (m : Move). home_after m r.home None) (stays_by l.at f (at_of_may l can.behind.may)) in
        let first = subst (λ (h : Option D). Run c k r.first words_now h (put r.all e.seat (learnt
        (r.all e.seat) l r.home None f))) home_is base in
        let second = subst (λ (x : Entry D). Run c k r.first words_now r.home (put r.all e.seat
        (learnt x l r.home None f))) same first in
        subst (λ (h : Option D). Run c k r.first words_now r.home (put r.all e.seat
        (learnt e l h None f))) mine.office_is second

    tied_now : Tied k all_now r.owner (slice_set s.views id now)
    tied_now id2 v i x at_v at_x = ⊎_elim
        (λ (here : (id2 ≡ id) × (now ≡ v)). ⊎_elim
        (λ (z : (i ≡ seat) × (after_e ≡ x)). subst (IsTied k all_now r.owner id2) z.1 (record {
          owned = tied.owned ∙ sym here.0;
          entry = put_here r.all e.seat e.seat after_e refl;
          low = tied.low;
        }))
        (λ (z : (i ≢ seat) × (get_elem? es i ≡ some x)).
        let old = r.tied id me.0 i x at z.1 in
        let row = can.row i x z.1 in
        record {
          owned = old.owned ∙ sym here.0;
          entry = put_else r.all e.seat x.seat after_e (λ (q : e.seat ≡ x.seat). z.0 (sym row ∙ sym q ∙ number))
              ∙ old.entry;
          low = old.low;
        })
        (at_set es seat i after_e x (subst (λ (y : View D). get_elem? y.entries i ≡ some x) (sym here.1) at_x)))
        (λ (there : (id2 ≢ id) × (get_elem? s.views id2 ≡ some v)).
        let old = r.tied id2 v i x there.1 at_x in
        record {
          owned = old.owned;
          entry = put_else r.all e.seat x.seat after_e
              (λ (q : e.seat ≡ x.seat). there.0 (sym old.owned ∙ ap r.owner (sym q) ∙ tied.owned)) ∙ old.entry;
          low = old.low;
        })
        (at_set s.views id id2 now v at_v)

    noted_now : Noted k words_now r.home r.owner (slice_set s.views id now)
    noted_now id2 v other at_v is_note = ⊎_elim
        (λ (here : (id2 ≡ id) × (now ≡ v)).
        let same = same_note (record { words = words_now; office = note.office }) other
        (ap (λ (y : View D). y.note) here.1 ∙ is_note) in
        record {
          words_are = ap (λ (n : Note D). n.words) same;
          office_is = mine.office_is ∙ ap (λ (n : Note D). Some n.office) same;
          owns = λ t low. mine.owns t low ∙ sym here.0;
        })
        (λ (there : (id2 ≢ id) × (get_elem? s.views id2 ≡ some v)).
        let old = r.noted id2 v other there.1 is_note in
        absurd (there.0 (sym (old.owns e.seat tied.low) ∙ tied.owned)))
        (at_set s.views id id2 now v at_v)

    pub rule_now : Rule c k IsFirst words_now (home_of s.homes) (slice_set s.views id now)
    rule_now = record {
      first = r.first;
      is_first = r.is_first;
      home = r.home;
      lies = inr (record {
        id = id;
        view = now;
        note = record { words = words_now; office = note.office };
        at = set_here s.views id now (at_low s.views id me.0 at);
        noted = refl;
      });
      all = all_now;
      owner = r.owner;
      run = run_now;
      others = λ t high. put_else r.all e.seat t after_e
          (λ (q : e.seat ≡ t). let low = tied.low in omega arith) ∙ r.others t high;
      tied = tied_now;
      noted = noted_now;
    }

    -- what the place knows then
    abbrev me_after : Me (Option D) (View D)
    me_after = (now, me.1)

    me_now : me_after ≡ me_stepped k seat l me
    me_now =
        subst (λ (n : Option (Note D)). me_after ≡ (view_stepped k seat l me.0 n, me.1)) (sym can.is_noted)
        (ap (λ (words : List ℕ). (
          noted (slice_set es seat (learnt e l (Some note.office) None (finds k words (course l))))
              (after_action k words (course l)) note.office,
          me.1,
        )) mine.words_are)

  module _ (c : Callback D) (k : Key) (IsFirst : D → Type 0) (slots id : ℕ) (me : Me (Option D) (View D)) (seat : ℕ)
      (l : Local) (w : Word) (word : word_of (course l) ≡ some w) (can : CanStep c k seat l me) where
    -- what the step tells that finds a value
    abbrev Learns : ℕ → Me (Option D) (View D) → Type 0
    Learns n now = (n ≡ value_noted me.0.note (index_of k w)) × (now ≡ me_stepped k seat l me)

    -- the step, as a table asks it
    pub steps : Allows (rule_at c k IsFirst) slots id me (index_of k w) (becomes (course l)) Learns
    steps s r len at bounded =
        let has = word_is (course l) w word in (
          now c k IsFirst id me seat l can has s r at,
          Act.keeps,
          tt,
          subst (λ (ws : List ℕ). Rule c k IsFirst ws (home_of s.homes)
              (slice_set s.views id (now c k IsFirst id me seat l can has s r at)))
              (sym (becomes_is k s.words (course l) w word)) (rule_now c k IsFirst id me seat l can has s r at),
          (
            subst (λ (n : Option (Note D)). slice_index s.words (index_of k w) ≡ value_noted n (index_of k w))
                (sym can.is_noted)
                (ap (λ (words : List ℕ). slice_index words (index_of k w))
                (mine c k IsFirst id me seat l can has s r at).words_are),
            me_now c k IsFirst id me seat l can has s r at,
          ),
        )

    -- the same, of what it leaves alone
    pub steps_blind : Allows (rule_at c k IsFirst) slots id me (index_of k w) (becomes (course l))
        (λ n now. now ≡ me_stepped k seat l me)
    steps_blind s r len at bounded =
        let q = steps s r len at bounded in (q.0, q.1, q.2, q.3, q.4.1)

    -- at a word that is none: a load of any word, which learns 0
    pub steps_void : (i : ℕ) → words_of k ≤ index_of k w
        → Allows (rule_at c k IsFirst) slots id me i (λ n. n) (λ n now. now ≡ me_stepped k seat l me)
    steps_void i past s r len at bounded =
        let has = word_is (course l) w word in
        let sized = (run_stands r.run).sized in
        let behind : length s.words ≤ index_of k w = subst (λ (n : ℕ). n ≤ index_of k w) (sym sized) past in (
          now c k IsFirst id me seat l can has s r at,
          Act.keeps,
          tt,
          subst (λ (ws : List ℕ). Rule c k IsFirst ws (home_of s.homes)
              (slice_set s.views id (now c k IsFirst id me seat l can has s r at)))
              (void_leaves k s.words (course l) w word behind ∙ sym (set-get_or s.words i 0))
              (rule_now c k IsFirst id me seat l can has s r at),
          me_now c k IsFirst id me seat l can has s r at,
        )
