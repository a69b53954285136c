-- What a turn, and a reset that begins, leave of a quiet pool is a state of a run.
use Rattle.std.proofs.Common.{◌≡◌, ◌≢◌, ℕ, ◌<◌, Bool, true, false, cond, List, [], length, refl, sym, ap}
use Rattle.std.proofs.Common.{◌∙◌, subst}
use Rattle.std.proofs.Common.{inr, ⊎_elim, arith, length-set}
use Rattle.std.specs.Prelude.{Option, Some, None, slice_get, slice_set}
use mathlib.Core.Option.{some, some-injective}
use lib.ListN.{get_elem?}
use Rattle.atomic_table.proofs.Lists.{at_set}
use Rattle.pool_types.specs.declared.values.Region.{Region}
use Rattle.pool_words.specs.declared.actions.Action.{Action}
use Rattle.pool_words.specs.declared.actions.Action.TheVariants.{Load, Store, Swap, Exchange, Add, TakeOffice}
use Rattle.pool_words.specs.declared.actions.Action.TheVariants.{GiveOffice, Nothing}
use Rattle.pool_words.specs.declared.words.Key.{Key}
use Rattle.pool_words.specs.Actions.{finds, after_action}
use Rattle.regions.specs.Offices.{Desk, desk_of}
use Rattle.word_laws.specs.Memory.{put}
use Rattle.word_laws.proofs.CallerLemmas.{put_here, put_else}
use Rattle.step_local.specs.declared.frames.Local.{Local}
use Rattle.step_local.specs.declared.frames.Reset.{Reset}
use Rattle.step_local.specs.Course.{course}
use Rattle.step_local.specs.Getting.{is_idle, reset_begun}
use Rattle.step_local.specs.Learn.{learn}
use Rattle.step_runs.specs.declared.entry.Entry.{Entry}
use Rattle.step_runs.specs.Callbacks.{office_of}
use Rattle.step_runs.specs.Entries.{learnt, seen_by}
use Rattle.step_runs.specs.Places.{has_word, Move, move_of}
use Rattle.step_runs.specs.Runs.{Callback, Passes, Silent, Run, home_after}
use Rattle.step_runs.specs.Runs.Run.{stepped}
use Rattle.step_runs.specs.Runs.Silent.{rests, answers, resets}
use Rattle.quiet_laws.proofs.CallerLemmas.{resets_begin}
use Rattle.atomic_driver.proofs.CallerLemmas.{at_low, at_some}
use Rattle.atomic_driver.specs.Rule.{key_by}
use Rattle.quiet_pool.specs.Quiet.{Quiet, IsState, IsBehind, AreIdle}
use Rattle.quiet_pool.specs.Resets.{locals_begun_of, part_begun}
use Rattle.quiet_pool.specs.Stepping.{entry_at, entry_by, turned, turned_of}
use Rattle.quiet_pool.proofs.Lists.{at_of, of_at}
use Rattle.quiet_pool.proofs.Stepping.{at_of_may, stays_by, learnt_by}
use Rattle.quiet_pool.proofs.Turns.{no_step_may, none_passed, may_after}

-- an action without a word leaves all words
pub leaves_words : (k : Key) (words : List ℕ) (action : Action) → has_word action ≡ false
    → after_action k words action ≡ words
leaves_words k words (Load w) e = refl
leaves_words k words (Store w value) e = absurd (cc)
leaves_words k words (Swap w value) e = absurd (cc)
leaves_words k words (Exchange w from to) e = absurd (cc)
leaves_words k words (Add w value) e = absurd (cc)
leaves_words k words (TakeOffice job) e = refl
leaves_words k words GiveOffice e = refl
leaves_words k words Nothing e = refl

-- the entry of a seat that is there
pub entry_there : {D : Type 0} (k : Key) (entries : List (Entry D)) (seat : ℕ) → seat < length entries
    → get_elem? entries seat ≡ some (entry_at k entries seat)
entry_there k entries seat low =
    let p = at_some entries seat low in
    p.1 ∙ ap (λ one. some (entry_by k seat one)) (sym (of_at entries seat p.0 p.1))

module _ {D : Type 0} (c : Callback D) where
  -- the seat behind its step on a word
  pub behind_step : (e : Entry D) (l : Local) (office : D) (f : ℕ) → IsBehind c e l → has_word (course l) ≡ true
      → IsBehind c (learnt e l (Some office) None f) (learn l (seen_by (course l) f)).0
  behind_step e l office f behind word =
      let none = none_passed l f behind.may word in
      let desk = learnt_by e l (Some office) f (stays_by l.at f (at_of_may l behind.may)) in
      let now : Local = (learn l (seen_by (course l) f)).0 in
      record {
        since = subst (λ (d : Option D). Silent c now d now None) (sym desk)
            (rests (subst (λ (first : Option ℕ). Passes c first None None) (sym none) refl));
        may = may_after l (seen_by (course l) f) behind.may;
      }

  -- and behind a turn without one
  pub behind_turn : (e : Entry D) (l : Local) (f : ℕ) → IsBehind c e l → has_word (course l) ≡ false
      → IsBehind c e (learn l (seen_by (course l) f)).0
  behind_turn e l f behind none =
      let is = no_step_may l behind.may none in
      record {
        since = subst (λ (action : Action). Silent c e.local e.desk (learn l (seen_by action f)).0 None) (sym is)
            (answers behind.since is);
        may = may_after l (seen_by (course l) f) behind.may;
      }

  -- and behind a reset that begins
  pub behind_reset : (e : Entry D) (l : Local) (reset : Reset) → IsBehind c e l → is_idle l.at ≡ true
      → IsBehind c e (reset_begun l reset).0
  behind_reset e l reset behind idle =
      let begun = (resets_begin l reset idle).1 in
      record {
        since = resets behind.since reset;
        may = inr (record { stage = ap (λ z. z.2) begun; at = ap (λ z. z.3) begun });
      }

module _ {R : Type 0} (out : R → List Region) (faults : R → ℕ) (got : R → ℕ → Option Region → R → Type 0)
    (passed : R → Region → Bool → R → Type 0) where
  abbrev State : Quiet R → Type 0
  State = IsState out faults got passed

  abbrev callback : Quiet R → Callback (Desk R)
  callback q = office_of out faults got passed (key_by q.plan)

  -- with another local of one seat
  pub other_local : (q : Quiet R) (st : State q) (seat : ℕ) (l : Local)
      → ((e : Entry (Desk R)) → get_elem? q.entries seat ≡ some e → IsBehind (callback q) e l)
      → State (record q { locals = slice_set q.locals seat l })
  other_local q st seat l behind = record {
    raw = st.raw;
    none_out = st.none_out;
    all = st.all;
    run = st.run;
    many = st.many;
    each = st.each;
    others = st.others;
    count = length-set q.locals seat l ∙ st.count;
    behind = λ i x e at_x at_e. ⊎_elim
        (λ (z : (i ≡ seat) × (l ≡ x)).
        subst (IsBehind (callback q) e) z.1 (behind e (ap (get_elem? q.entries) (sym z.0) ∙ at_e)))
        (λ (z : (i ≢ seat) × (get_elem? q.locals i ≡ some x)). st.behind i x e z.1 at_e)
        (at_set q.locals seat i l x at_x);
  }

  module _ (q : Quiet R) (st : State q) (seat : ℕ) (l : Local) (at : slice_get q.locals seat ≡ Some l) where
    abbrev k : Key
    k = key_by q.plan

    abbrev f : ℕ
    f = finds k q.words (course l)

    abbrev e : Entry (Desk R)
    e = entry_at k q.entries seat

    abbrev next : Local
    next = (learn l (seen_by (course l) f)).0

    low : seat < k.seats
    low = let within = at_low q.locals seat l (at_of q.locals seat l at) in let count = st.count in omega arith

    there : get_elem? q.entries seat ≡ some e
    there = entry_there k q.entries seat (let many = st.many in let h = low in omega arith)

    pub behind_here : IsBehind (callback q) e l
    behind_here = st.behind seat l e (at_of q.locals seat l at) there

    -- a turn without a step
    turn_only : has_word (course l) ≡ false → State (turned_of (Some l) q seat).0
    turn_only none =
        let base = other_local q st seat next (λ x at_x.
        subst (λ (y : Entry (Desk R)). IsBehind (callback q) y next) (some-injective e x (sym there ∙ at_x))
        (behind_turn (callback q) e l f behind_here none)) in
        subst (λ (z : List ℕ × Bool). State (record q {
          words = z.0;
          locals = slice_set q.locals seat next;
          entries = cond z.1 (slice_set q.entries seat (learnt e l (Some q.desk) None f)) q.entries;
        })) (λ i. (sym (leaves_words k q.words (course l) none) i, sym none i)) base

    abbrev after_e : Entry (Desk R)
    after_e = learnt e l (Some q.desk) None f

    -- a step on a word
    stepped_on : has_word (course l) ≡ true → State (record q {
      words = after_action k q.words (course l);
      locals = slice_set q.locals seat next;
      entries = slice_set q.entries seat after_e;
    })
    stepped_on word = record {
      raw = st.raw;
      none_out = st.none_out;
      all = put st.all seat after_e;
      run = run_now;
      many = length-set q.entries seat after_e ∙ st.many;
      each = λ i x at_x. ⊎_elim
          (λ (z : (i ≡ seat) × (after_e ≡ x)). put_here st.all seat i after_e (sym z.0) ∙ z.1)
          (λ (z : (i ≢ seat) × (get_elem? q.entries i ≡ some x)).
          put_else st.all seat i after_e (λ (w : seat ≡ i). z.0 (sym w)) ∙ st.each i x z.1)
          (at_set q.entries seat i after_e x at_x);
      others = λ i high. put_else st.all seat i after_e (λ (w : seat ≡ i). let h = low in omega arith)
          ∙ st.others i high;
      count = length-set q.locals seat next ∙ st.count;
      behind = λ i x y at_x at_y. ⊎_elim
          (λ (z : (i ≡ seat) × (next ≡ x)). ⊎_elim
          (λ (w : (i ≡ seat) × (after_e ≡ y)).
          subst (λ (p : Entry (Desk R) × Local). IsBehind (callback q) p.0 p.1) (λ j. (w.1 j, z.1 j))
          (behind_step (callback q) e l q.desk f behind_here word))
          (λ (w : (i ≢ seat) × (get_elem? q.entries i ≡ some y)). absurd (w.0 z.0))
          (at_set q.entries seat i after_e y at_y))
          (λ (z : (i ≢ seat) × (get_elem? q.locals i ≡ some x)). ⊎_elim
          (λ (w : (i ≡ seat) × (after_e ≡ y)). absurd (z.0 w.0))
          (λ (w : (i ≢ seat) × (get_elem? q.entries i ≡ some y)). st.behind i x y z.1 w.1)
          (at_set q.entries seat i after_e y at_y))
          (at_set q.locals seat i next x at_x);
    }
      where
        same : st.all seat ≡ e
        same = st.each seat e there

        first : Desk R
        first = desk_of q.plan.policy q.plan.limits [] 0 false st.raw

        run_now : Run (callback q) k first (after_action k q.words (course l)) (Some q.desk) (put st.all seat after_e)
        run_now =
            let base = stepped st.run seat l None
            (subst (λ (x : Entry (Desk R)). Silent (callback q) x.local x.desk l None)
            (sym same) behind_here.since) word in
            let home_is : home_after (move_of l.at f) (Some q.desk) None ≡ Some q.desk =
            ap (λ (m : Move). home_after m (Some q.desk) None) (stays_by l.at f (at_of_may l behind_here.may)) in
            subst (λ (x : Entry (Desk R)). Run (callback q) k first (after_action k q.words (course l)) (Some q.desk)
            (put st.all seat (learnt x l (Some q.desk) None f))) same
            (subst (λ (h : Option (Desk R)). Run (callback q) k first (after_action k q.words (course l)) h
            (put st.all seat (learnt (st.all seat) l (Some q.desk) None f))) home_is base)

    turned_here : State (turned_of (Some l) q seat).0
    turned_here = by (has_word (course l)) refl
      where
        by : (b : Bool) → has_word (course l) ≡ b → State (turned_of (Some l) q seat).0
        by true word = subst (λ (b : Bool). State (record q {
          words = after_action k q.words (course l);
          locals = slice_set q.locals seat next;
          entries = cond b (slice_set q.entries seat after_e) q.entries;
        })) (sym word) (stepped_on word)
        by false none = turn_only none

  -- a turn
  pub turned_state : (q : Quiet R) (seat : ℕ) → State q → State (turned q seat).0
  turned_state q seat st = by (slice_get q.locals seat) refl
    where
      by : (one : Option Local) → slice_get q.locals seat ≡ one → State (turned_of one q seat).0
      by None e = st
      by (Some l) e = turned_here q st seat l e

  -- a reset that begins
  pub begun_state : (q : Quiet R) (seat : ℕ) (reset : Reset) → State q → AreIdle q.locals → State
      (part_begun q seat reset)
  begun_state q seat reset st idle = by (slice_get q.locals seat) refl
    where
      by : (one : Option Local) → slice_get q.locals seat ≡ one
          → State (record q { locals = locals_begun_of one q.locals seat reset })
      by None e = st
      by (Some l) e = other_local q st seat (reset_begun l reset).0 (λ x at_x.
          behind_reset (callback q) x l reset (st.behind seat l x (at_of q.locals seat l e) at_x)
          (idle seat l (at_of q.locals seat l e)))
