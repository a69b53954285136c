-- Each step of a course keeps the rule of the table.
use Rattle.std.proofs.Common.{◌≡◌, ◌≢◌, ◌⊎◌, ℕ, ◌+◌, ◌%◌, ◌^◌, ◌≤◌, Bool, true, false, cond, eqb, List, []}
use Rattle.std.proofs.Common.{◌∷◌, length, refl, sym, ap, ◌∙◌, subst, inl, ⊎_elim, arith}
use Rattle.std.specs.Prelude.{Option, Some, None, slice_set, slice_index}
use Rattle.std.proofs.lemmas.List.{set-get_or, get_or_past, set_past}
use mathlib.Core.Option as maybe
use mathlib.Core.Option.{some, none, some-injective, some-ne-none}
use lib.ListN.{get_elem?}
use prog.Atomic.{either}
use Rattle.atomic_table.specs.Table.{State, Me, Act, Valid, homes_after, carried_after, Allows}
use Rattle.atomic_table.proofs.Lists.{at_set}
use Rattle.pool_words.specs.declared.words.Key.{Key}
use Rattle.pool_words.specs.declared.words.Word.{Word}
use Rattle.pool_words.specs.declared.actions.Action.{Action}
use Rattle.pool_words.specs.declared.actions.Action.TheVariants.{Load, Store, Swap, Exchange, Add, TakeOffice}
use Rattle.pool_words.specs.declared.actions.Action.TheVariants.{GiveOffice, Nothing}
use Rattle.pool_words.specs.Words.{words_of, index_of}
use Rattle.pool_words.specs.Actions.{value, with_word, finds, after_action}
use Rattle.word_laws.specs.Memory.{put, memory}
use Rattle.word_laws.proofs.CallerLemmas.{put_here, put_else, actions_act_by_kind}
use Rattle.step_local.specs.declared.frames.Local.{Local}
use Rattle.step_local.specs.Course.{course}
use Rattle.step_local.specs.Learn.{learn}
use Rattle.step_runs.specs.declared.entry.Entry.{Entry}
use Rattle.step_runs.specs.Places.{has_word, Carry, carry_of, HasDesk}
use Rattle.step_runs.specs.Places.{Move, stays, takes, gives, move_of}
use Rattle.step_runs.specs.Entries.{seen_by, learnt, first_entry}
use Rattle.step_runs.specs.Runs.{Callback, Silent, home_after, Run}
use Rattle.step_runs.specs.Runs.Run.{stepped}
use Rattle.step_runs.specs.Laws.{Onward}
use Rattle.step_runs.proofs.CallerLemmas.{steps_go_onward, IsHome, takes_free, run_stands, Keeps, run_keeps}
use Rattle.atomic_driver.specs.declared.rule.Note.{Note}
use Rattle.atomic_driver.specs.declared.rule.View.{View}
use Rattle.atomic_driver.specs.Rule.{Rule, Tied, IsTied, Noted, IsNoted, HasNote, home_of}
use Rattle.atomic_driver.specs.Steps.{word_of, becomes, taught, view_after, Carried, SlotOut, Ready, Steps}

-- an action that names a word is one on a word
pub word_is : (action : Action) (w : Word) → word_of action ≡ some w → has_word action ≡ true
word_is (Load x) w e = refl
word_is (Store x v) w e = refl
word_is (Swap x v) w e = refl
word_is (Exchange x from to) w e = refl
word_is (Add x v) w e = refl
word_is (TakeOffice job) w e = absurd (some-ne-none w (sym e))
word_is GiveOffice w e = absurd (some-ne-none w (sym e))
word_is Nothing w e = absurd (some-ne-none w (sym e))

-- what is found at a word, and what becomes of it, are what the action finds and leaves
pub found_is : (k : Key) (words : List ℕ) (action : Action) (w : Word) → word_of action ≡ some w
    → taught action (slice_index words (index_of k w)) ≡ finds k words action
found_is k words (Load x) w e = ap (λ y. slice_index words (index_of k y)) (sym (some-injective x w e))
found_is k words (Store x v) w e = refl
found_is k words (Swap x v) w e = ap (λ y. slice_index words (index_of k y)) (sym (some-injective x w e))
found_is k words (Exchange x from to) w e = ap (λ y. slice_index words (index_of k y)) (sym (some-injective x w e))
found_is k words (Add x v) w e = ap (λ y. slice_index words (index_of k y)) (sym (some-injective x w e))
found_is k words (TakeOffice job) w e = absurd (some-ne-none w (sym e))
found_is k words GiveOffice w e = absurd (some-ne-none w (sym e))
found_is k words Nothing w e = absurd (some-ne-none w (sym e))

pub becomes_is : (k : Key) (words : List ℕ) (action : Action) (w : Word) → word_of action ≡ some w
    → slice_set words (index_of k w) (becomes action (slice_index words (index_of k w))) ≡ after_action k words action
becomes_is k words (Load x) w e = set-get_or words (index_of k w) 0
becomes_is k words (Store x v) w e = ap (λ y. slice_set words (index_of k y) v) (sym (some-injective x w e))
becomes_is k words (Swap x v) w e = ap (λ y. slice_set words (index_of k y) v) (sym (some-injective x w e))
becomes_is k words (Exchange x from to) w e =
    subst (λ y. slice_set words (index_of k y) (either (eqb (slice_index words (index_of k y)) from) to (slice_index words (index_of k y)))
    ≡ cond (eqb (value k words x) from) (with_word k words x to) words) (some-injective x w e)
    (by (eqb (slice_index words (index_of k x)) from))
  where
    by : (b : Bool) → slice_set words (index_of k x) (either b to (slice_index words (index_of k x)))
        ≡ cond b (with_word k words x to) words
    by true = refl
    by false = set-get_or words (index_of k x) 0
becomes_is k words (Add x v) w e =
    ap (λ y. slice_set words (index_of k y) ((slice_index words (index_of k y) + v) % 2 ^ 64)) (sym (some-injective x w e))
becomes_is k words (TakeOffice job) w e = absurd (some-ne-none w (sym e))
becomes_is k words GiveOffice w e = absurd (some-ne-none w (sym e))
becomes_is k words Nothing w e = absurd (some-ne-none w (sym e))

-- a word that is none is found as 0, and is not written
pub void_finds : (k : Key) (words : List ℕ) (action : Action) (w : Word) → word_of action ≡ some w
    → length words ≤ index_of k w → finds k words action ≡ 0
void_finds k words (Store x v) w e past = refl
void_finds k words (TakeOffice job) w e past = refl
void_finds k words GiveOffice w e past = refl
void_finds k words Nothing w e past = refl
void_finds k words (Load x) w e past =
    ap (λ y. slice_index words (index_of k y)) (some-injective x w e) ∙ get_or_past words (index_of k w) 0 past
void_finds k words (Swap x v) w e past =
    ap (λ y. slice_index words (index_of k y)) (some-injective x w e) ∙ get_or_past words (index_of k w) 0 past
void_finds k words (Exchange x from to) w e past =
    ap (λ y. slice_index words (index_of k y)) (some-injective x w e) ∙ get_or_past words (index_of k w) 0 past
void_finds k words (Add x v) w e past =
    ap (λ y. slice_index words (index_of k y)) (some-injective x w e) ∙ get_or_past words (index_of k w) 0 past

void_set : (k : Key) (words : List ℕ) (x w : Word) (v : ℕ) → x ≡ w → length words ≤ index_of k w
    → with_word k words x v ≡ words
void_set k words x w v same past = ap (λ y. slice_set words (index_of k y) v) same ∙ set_past words (index_of k w) v past

pub void_leaves : (k : Key) (words : List ℕ) (action : Action) (w : Word) → word_of action ≡ some w
    → length words ≤ index_of k w → after_action k words action ≡ words
void_leaves k words (Load x) w e past = refl
void_leaves k words (Store x v) w e past = void_set k words x w v (some-injective x w e) past
void_leaves k words (Swap x v) w e past = void_set k words x w v (some-injective x w e) past
void_leaves k words (Exchange x from to) w e past = by (eqb (value k words x) from)
  where
    by : (b : Bool) → cond b (with_word k words x to) words ≡ words
    by true = void_set k words x w to (some-injective x w e) past
    by false = refl
void_leaves k words (Add x v) w e past = void_set k words x w _ (some-injective x w e) past
void_leaves k words (TakeOffice job) w e past = refl
void_leaves k words GiveOffice w e past = refl
void_leaves k words Nothing w e past = refl

module _ {D : Type 0} where
  -- the slot that is given back
  abbrev OutFor : Move → Option D → List (ℕ × Option D) → Type 0
  OutFor stays desk slots = Unit {0}
  OutFor takes desk slots = Unit {0}
  OutFor gives desk slots = slots ≡ (0, desk) ∷ []

  out_by : (before after : Carry) (move : Move) (desk : Option D) (slots : List (ℕ × Option D))
      → Onward before move after → SlotOut before desk slots → OutFor move desk slots
  out_by before after stays desk slots on out = tt
  out_by before after takes desk slots on out = tt
  out_by before after gives desk slots on out = subst (λ (z : Carry). SlotOut z desk slots) on.0 out

  -- the act for the slot
  choose : (move : Move) (home desk : Option D) (homes : List (maybe.Option (Option D))) (slots : List (ℕ × Option D))
      → (move ≡ takes → IsHome home) → OutFor move desk slots → length homes ≡ 1 → home_of homes ≡ home
      → (a : Act (Option D)) × Valid homes slots a × (home_after move home desk ≡ home_of (homes_after homes slots a))
      × Carried move home slots (carried_after slots a)
  choose stays home desk homes slots from out one e = (Act.keeps, tt, sym e, refl)
  choose takes home desk [] slots from out one e = absurd (omega arith)
  choose takes home desk (none ∷ homes) slots from out one e =
      let some_ = from refl in let no_ : None ≡ Some some_.0 = e ∙ some_.1 in absurd (cc)
  choose takes home desk (some x ∷ homes) slots from out one e =
      let some_ = from refl in
      (Act.takes 0 x, refl, refl, (some_.0, some_.1, ap (λ (y : Option D). (0, y) ∷ slots) e))
  choose gives home desk [] slots from out one e = absurd (omega arith)
  choose gives home desk (y ∷ homes) slots from out one e =
      subst (λ (z : List (ℕ × Option D)). (a : Act (Option D)) × Valid (y ∷ homes) z a
      × (home_after gives home desk ≡ home_of (homes_after (y ∷ homes) z a)) × Carried gives home z (carried_after z a))
      (sym out) (Act.gives, tt, refl, refl)

  pub no_note : (v u : View D) (note : Note D) → v ≡ u → v.note ≡ None → u.note ≡ Some note → ⊥
  no_note v u note same bare is = let z : None ≡ Some note = sym bare ∙ ap (λ (x : View D). x.note) same ∙ is in cc

  -- where a view has no note and a seat, what lies at home is in the slot
  pub in_slot_by : (c : Callback D) (k : Key) (IsFirst : D → Type 0) (words : List ℕ) (slot : Option D)
      (views : List (View D)) (r : Rule c k IsFirst words slot views) (id : ℕ) (v : View D) (j : ℕ) (e : Entry D)
      → get_elem? views id ≡ some v → get_elem? v.entries j ≡ some e → v.note ≡ None → slot ≡ r.home
  in_slot_by c k IsFirst words slot views r id v j e at at_e bare = ⊎_elim
      (λ (here : slot ≡ r.home). here)
      (λ (there : HasNote views).
      let mine = r.tied id v j e at at_e in
      let theirs = r.noted there.id there.view there.note there.at there.noted in
      let same : id ≡ there.id = sym mine.owned ∙ theirs.owns e.seat mine.low in
      let at_same : get_elem? views id ≡ some there.view = ap (get_elem? views) same ∙ there.at in
      absurd (no_note v there.view there.note (some-injective v there.view (sym at ∙ at_same)) bare there.noted))
      r.lies

  module _ (c : Callback D) (k : Key) (IsFirst Is : D → Type 0) (keeps : Keeps Is c)
      (first_is : (one : D) → IsFirst one → Is one) where
    abbrev pub rule_of : State (Option D) (View D) → Type 0
    rule_of s = Rule c k IsFirst s.words (home_of s.homes) s.views

    -- the step of an entry's course is a row, and tells `Steps`
    module _ (id : ℕ) (me : Me (Option D) (View D)) (j : ℕ) (e : Entry D) (l : Local) (desk : Option D)
        (ready : Ready c j e l desk me) (word : has_word (course l) ≡ true) (s : State (Option D) (View D))
        (r : Rule c k IsFirst s.words (home_of s.homes) s.views) (one : length s.homes ≡ 1)
        (at_view : get_elem? s.views id ≡ some me.0) where
      abbrev t : ℕ
      t = e.seat

      abbrev f : ℕ
      f = finds k s.words (course l)

      abbrev move : Move
      move = move_of l.at f

      abbrev home : Option D
      home = home_of s.homes

      abbrev after_e : Entry D
      after_e = learnt e l home desk f

      mine : IsTied k r.all r.owner id e
      mine = r.tied id me.0 j e at_view ready.there

      lies_home : r.home ≡ home_of s.homes
      lies_home = sym (in_slot_by c k IsFirst s.words (home_of s.homes) s.views r id me.0 j e at_view ready.there ready.unnoted)

      run_here : Run c k r.first s.words (home_of s.homes) r.all
      run_here = subst (λ (h : Option D). Run c k r.first s.words h r.all) lies_home r.run

      on : Onward (carry_of l.at) move (carry_of (learn l (seen_by (course l) f)).0.at)
      on = (steps_go_onward l f word).carry

      home_is : move ≡ takes → IsHome home
      home_is is =
          let stands = run_stands run_here in
          let acts = actions_act_by_kind k s.words (course l) stands.sized in
          stands.free (takes_free (memory k s.words) l l.at (ap (move_of l.at) (sym acts.sees) ∙ is))

      chosen : (a : Act (Option D)) × Valid s.homes me.1 a × (home_after move home desk ≡ home_of (homes_after s.homes me.1 a))
          × Carried move home me.1 (carried_after me.1 a)
      chosen = choose move home desk s.homes me.1 home_is
          (out_by (carry_of l.at) (carry_of (learn l (seen_by (course l) f)).0.at) move desk me.1 on ready.hands) one refl

      abbrev words_now : List ℕ
      words_now = after_action k s.words (course l)

      run_after : Run c k r.first words_now (home_of (homes_after s.homes me.1 chosen.0)) (put r.all t after_e)
      run_after =
          let since = subst (λ (x : Entry D). Silent c x.local x.desk l desk) (sym mine.entry) ready.since in
          let base = stepped run_here t l desk since word in
          let at_home = subst (λ (h : Option D). Run c k r.first words_now h
          (put r.all t (learnt (r.all t) l home desk f))) chosen.2 base in
          subst (λ (x : Entry D). Run c k r.first words_now (home_of (homes_after s.homes me.1 chosen.0))
          (put r.all t (learnt x l home desk f))) mine.entry at_home

      abbrev view_now : View D
      view_now = view_after me.0 j e l home desk f

      tied_after : Tied k (put r.all t after_e) r.owner (slice_set s.views id view_now)
      tied_after id2 v i x at_v at_x = ⊎_elim
          (λ (here : (id2 ≡ id) × (view_now ≡ v)). ⊎_elim
          (λ (z : (i ≡ j) × (after_e ≡ x)).
          subst (λ (q : Entry D). IsTied k (put r.all t after_e) r.owner id2 q) z.1 (record {
            owned = mine.owned ∙ sym here.0;
            entry = put_here r.all t t after_e refl;
            low = mine.low;
          }))
          (λ (z : (i ≢ j) × (get_elem? me.0.entries i ≡ some x)).
          let old = r.tied id me.0 i x at_view z.1 in
          let row = ready.in_a_row i x z.1 in
          let differ = z.0 in
          record {
            owned = old.owned ∙ sym here.0;
            entry = put_else r.all t x.seat after_e (λ (q : t ≡ x.seat). differ (omega arith)) ∙ old.entry;
            low = old.low;
          })
          (at_set me.0.entries j i after_e x
          (subst (λ (q : View D). get_elem? q.entries i ≡ some x) (sym here.1) at_x)))
          (λ (there : (id2 ≢ id) × (get_elem? s.views id2 ≡ some v)).
          let old = r.tied id2 v i x there.1 at_x in
          record {
            owned = old.owned;
            entry = put_else r.all t x.seat after_e
                (λ (q : t ≡ x.seat). there.0 (sym old.owned ∙ ap r.owner (sym q) ∙ mine.owned)) ∙ old.entry;
            low = old.low;
          })
          (at_set s.views id id2 view_now v at_v)

      noted_now : Noted k words_now (home_of (homes_after s.homes me.1 chosen.0)) r.owner (slice_set s.views id view_now)
      noted_now id2 v note at_v is_note = ⊎_elim
          (λ (here : (id2 ≡ id) × (view_now ≡ v)). absurd (no_note view_now v note here.1 refl is_note))
          (λ (there : (id2 ≢ id) × (get_elem? s.views id2 ≡ some v)).
          let old = r.noted id2 v note there.1 is_note in
          absurd (there.0 (sym (old.owns t mine.low) ∙ mine.owned)))
          (at_set s.views id id2 view_now v at_v)

      others_now : (seat : ℕ) → k.seats ≤ seat → put r.all t after_e seat ≡ first_entry k seat
      others_now seat high =
          let low = mine.low in
          put_else r.all t seat after_e (λ (q : t ≡ seat). omega arith) ∙ r.others seat high

      home_pools : (one : D) → home ≡ Some one → Is one
      home_pools = (run_keeps Is c keeps (first_is r.first r.is_first) run_here).home_has

      kept : (z : View D) × (a : Act (Option D)) × Valid s.homes me.1 a
          × Rule c k IsFirst words_now (home_of (homes_after s.homes me.1 a)) (slice_set s.views id z)
          × Steps Is j e l desk me f (z, carried_after me.1 a)
      kept = (
        view_now,
        chosen.0,
        chosen.1,
        record {
          first = r.first;
          is_first = r.is_first;
          home = home_of (homes_after s.homes me.1 chosen.0);
          lies = inl refl;
          all = put r.all t after_e;
          owner = r.owner;
          run = run_after;
          others = others_now;
          tied = tied_after;
          noted = noted_now;
        },
        record { home = home; view_is = refl; slots = chosen.3; is_pools = home_pools },
      )

    module _ (slots id : ℕ) (me : Me (Option D) (View D)) (j : ℕ) (e : Entry D) (l : Local) (desk : Option D) (w : Word)
        (one : slots ≡ 1) (ready : Ready c j e l desk me) (word : word_of (course l) ≡ some w) where
      -- the same, as a step of a table asks it
      pub allowed : Allows rule_of slots id me (index_of k w) (becomes (course l))
          (λ n. Steps Is j e l desk me (taught (course l) n))
      allowed s r len at_view bounded =
          let q = kept id me j e l desk ready (word_is (course l) w word) s r (len ∙ one) at_view in (
            q.0,
            q.1,
            q.2,
            subst (λ (ws : List ℕ). Rule c k IsFirst ws (home_of (homes_after s.homes me.1 q.1)) (slice_set s.views id q.0))
                (sym (becomes_is k s.words (course l) w word)) q.3,
            subst (λ (n : ℕ). Steps Is j e l desk me n (q.0, carried_after me.1 q.1))
                (sym (found_is k s.words (course l) w word)) q.4,
          )

      -- at a word that is none: a load of any word, which learns 0
      pub allowed_blind : (i : ℕ) → words_of k ≤ index_of k w
          → Allows rule_of slots id me i (λ n. n) (λ n. Steps Is j e l desk me 0)
      allowed_blind i past s r len at_view bounded =
          let q = kept id me j e l desk ready (word_is (course l) w word) s r (len ∙ one) at_view in
          let sized = (run_stands r.run).sized in
          let behind : length s.words ≤ index_of k w = subst (λ (n : ℕ). n ≤ index_of k w) (sym sized) past in (
            q.0,
            q.1,
            q.2,
            subst (λ (ws : List ℕ). Rule c k IsFirst ws (home_of (homes_after s.homes me.1 q.1)) (slice_set s.views id q.0))
                (void_leaves k s.words (course l) w word behind ∙ sym (set-get_or s.words i 0)) q.3,
            subst (λ (n : ℕ). Steps Is j e l desk me n (q.0, carried_after me.1 q.1))
                (void_finds k s.words (course l) w word behind) q.4,
          )
