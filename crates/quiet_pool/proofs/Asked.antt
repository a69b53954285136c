-- What the table asks of a quiet pool's steps, looks and notes.
use Rattle.std.proofs.Common.{◌≡◌, ℕ, ◌<◌, ◌≤◌, List, [], ◌∷◌, length, refl, sym, ap, ◌∙◌, subst}
use Rattle.std.specs.Prelude.{Bool, Option, Some, None, slice_index}
use Rattle.std.proofs.lemmas.List.{set-get_or}
use mathlib.Core.Option.{some}
use Rattle.pool_types.specs.declared.values.Region.{Region}
use Rattle.pool_words.specs.declared.words.Key.{Key}
use Rattle.pool_words.specs.declared.words.Word.{Word}
use Rattle.pool_words.specs.declared.actions.Action.{Action}
use Rattle.pool_words.specs.Words.{words_of, index_of}
use Rattle.regions.specs.Offices.{Desk}
use Rattle.step_local.specs.declared.frames.Local.{Local}
use Rattle.step_local.specs.Course.{course}
use Rattle.step_runs.specs.declared.entry.Entry.{Entry}
use Rattle.step_runs.specs.Callbacks.{office_of}
use Rattle.step_runs.specs.Laws.{IsOf}
use Rattle.step_runs.proofs.CallerLemmas.{office_keeps}
use Rattle.atomic_table.specs.Table.{State, Me, Act, Allows, Splits, Joins, rest}
use Rattle.atomic_table.proofs.Lists.{set_again}
use Rattle.atomic_driver.specs.declared.rule.Note.{Note}
use Rattle.atomic_driver.specs.declared.rule.Plan.{Plan}
use Rattle.atomic_driver.specs.declared.rule.View.{View}
use Rattle.atomic_driver.specs.Rule.{key_by, home_of, plain, IsMade, PoolRule, no_plan}
use Rattle.atomic_driver.specs.Seating.{others_of, IsFrom}
use Rattle.atomic_driver.specs.Steps.{becomes, own_of, word_of}
use Rattle.atomic_driver.proofs.CallerLemmas.{made_is, rule_by, splits_view}
use Rattle.quiet_pool.specs.Noting.{IsAll, Notes, Forgets, joined, noted}
use Rattle.quiet_pool.specs.Stepping.{CanStep, me_stepped, value_noted}
use Rattle.quiet_pool.proofs.Places.{splits_nothing, joins}
use Rattle.quiet_pool.proofs.Notes.{notes, forgets}
use Rattle.quiet_pool.proofs.Stepping.{steps, steps_blind, steps_void}

-- the slot has the office again
pub renoted : {D : Type 0} (me now : Me (Option D) (View D)) (words : List ℕ) (office : D)
    → now ≡ (me.0, (0, Some office) ∷ rest me.1) → me ≡ (noted me.0.entries words office, (0, None) ∷ [])
    → now ≡ (noted now.0.entries words office, (0, Some office) ∷ [])
renoted {D} me now words office is is_noted =
    let p : now ≡ (noted me.0.entries words office, (0, Some office) ∷ []) =
    is ∙ ap (λ (z : Me (Option D) (View D)). (z.0, (0, Some office) ∷ rest z.1)) is_noted in
    p ∙ ap (λ (es : List (Entry D)). (noted es words office, (0, Some office) ∷ []))
    (sym (ap (λ (z : Me (Option D) (View D)). z.0.entries) p))

module _ {R : Type 0} (out : R → List Region) (faults : R → ℕ) (got : R → ℕ → Option Region → R → Type 0)
    (passed : R → Region → Bool → R → Type 0) where
  abbrev Known : Type 0
  Known = Me (Option (Desk R)) (View (Desk R))

  abbrev rules : Plan → State (Option (Desk R)) (View (Desk R)) → Type 0
  rules plan = rule_by out faults got passed plan

  module _ (plan shared : Plan) (slots id : ℕ) (me : Known) (seat : ℕ) (l ll : Local) (w : Word) (k : Key)
      (same_plan : shared ≡ plan) (key_is : k ≡ key_by plan) (same_local : ll ≡ l)
      (word : word_of (course ll) ≡ some w)
      (can : CanStep (office_of out faults got passed (key_by plan)) (key_by plan) seat l me) where
    word_is : word_of (course l) ≡ some w
    word_is = ap (λ z. word_of (course z)) (sym same_local) ∙ word

    -- a step that learns what it found
    pub asked : (i : ℕ) (action : Action) → course ll ≡ action → i ≡ index_of k w
        → Allows (rules shared) slots id me i (becomes action)
        (λ n now. (n ≡ value_noted me.0.note i) × (now ≡ me_stepped (key_by plan) seat l me))
    asked i action is here =
        let at : index_of (key_by plan) w ≡ i = sym (here ∙ ap (λ z. index_of z w) key_is) in
        let is_action : course l ≡ action = ap course (sym same_local) ∙ is in
        subst (λ (z : Plan × ℕ × Action). Allows (rules z.0) slots id me z.1 (becomes z.2)
        (λ n now. (n ≡ value_noted me.0.note z.1) × (now ≡ me_stepped (key_by plan) seat l me)))
        (λ x. (sym same_plan x, at x, is_action x))
        (steps (office_of out faults got passed (key_by plan)) (key_by plan)
        (IsMade out plan) slots id me seat l w word_is can)

    -- a store
    pub asked_blind : (i : ℕ) (action : Action) → course ll ≡ action → i ≡ index_of k w
        → Allows (rules shared) slots id me i (becomes action) (λ n now. now ≡ me_stepped (key_by plan) seat l me)
    asked_blind i action is here =
        let at : index_of (key_by plan) w ≡ i = sym (here ∙ ap (λ z. index_of z w) key_is) in
        let is_action : course l ≡ action = ap course (sym same_local) ∙ is in
        subst (λ (z : Plan × ℕ × Action). Allows (rules z.0) slots id me z.1 (becomes z.2)
        (λ n now. now ≡ me_stepped (key_by plan) seat l me))
        (λ x. (sym same_plan x, at x, is_action x))
        (steps_blind (office_of out faults got passed (key_by plan)) (key_by plan)
        (IsMade out plan) slots id me seat l w
        word_is can)

    -- a load in place of a step on a word that is none
    pub asked_void : (i : ℕ) → words_of k ≤ index_of k w
        → Allows (rules shared) slots id me i (λ n. n) (λ n now. now ≡ me_stepped (key_by plan) seat l me)
    asked_void i past =
        subst (λ (z : Plan). Allows (rules z) slots id me i (λ n. n) (λ n now. now ≡ me_stepped
        (key_by plan) seat l me))
        (sym same_plan)
        (steps_void (office_of out faults got passed (key_by plan)) (key_by plan) (IsMade out plan) slots id me seat l w
        word_is can i (subst (λ z. words_of z ≤ index_of z w) key_is past))

  -- a look, which changes nothing
  pub looks : (plan : Plan) (slots id : ℕ) (me : Known) (i : ℕ) (note : Note (Desk R)) → me.0.note ≡ Some note
      → Allows (rules plan) slots id me i (λ n. n) (λ n now. (now ≡ me) × (n ≡ value_noted me.0.note i))
  looks plan slots id me i note is s r len at bounded =
      let mine = r.noted id me.0 note at is in (
        me.0,
        Act.keeps,
        tt,
        subst (λ (z : List ℕ × List (View (Desk R))). PoolRule out faults got passed plan z.0 (home_of s.homes) z.1)
            (λ x. (sym (set-get_or s.words i 0) x, sym (set_again s.views id me.0 at) x)) r,
        (
          refl,
          ap (λ (words : List ℕ). slice_index words i) mine.words_are
              ∙ ap (λ (n : Option (Note (Desk R))). value_noted n i) (sym is),
        ),
      )

  pub asked_nothing : (plan shared : Plan) (id : ℕ) (v : View (Desk R)) → shared ≡ plan
      → Splits (rules shared) id v v (plain [])
  asked_nothing plan shared id v same =
      splits_nothing (office_of out faults got passed (key_by shared)) (key_by shared) (IsMade out shared) id v

  pub asked_joined : (plan shared : Plan) (id other : ℕ) (v w : View (Desk R)) (e : Entry (Desk R)) → shared ≡ plan
      → v ≡ plain v.entries → w ≡ plain (e ∷ []) → Joins (rules shared) id v other w (joined v w) (plain [])
  asked_joined plan shared id other v w e same is_v is_w =
      subst (λ (z : View (Desk R) × View (Desk R)). Joins (rules shared) id z.0 other z.1 (joined z.0 z.1) (plain []))
      (λ x. (sym is_v x, sym is_w x))
      (joins (office_of out faults got passed (key_by shared)) (key_by shared) (IsMade out shared) id v.entries other e)

  pub asked_first : (plan shared : Plan) (id seat : ℕ) (v : View (Desk R)) → shared ≡ plan → v.note ≡ None
      → IsFrom seat v.entries → 0 < length v.entries
      → Splits (rules shared) id v (plain (others_of v.entries)) (plain (own_of (key_by no_plan) v.entries ∷ []))
  asked_first plan shared id seat v same bare row some_ =
      splits_view (office_of out faults got passed (key_by shared)) (key_by shared) (IsMade out shared) (key_by no_plan)
      id seat v bare row some_

  pub asked_notes : (plan shared : Plan) (slots id : ℕ) (me : Known) (i : ℕ) → shared ≡ plan → slots ≡ 1
      → 0 < (key_by plan).seats → IsAll (key_by plan) me.0.entries → me ≡ (plain me.0.entries, [])
      → Allows (rules shared) slots id me i (λ n. n)
      (λ n. Notes (office_of out faults got passed (key_by plan)) (key_by plan) (IsMade out plan)
      (IsOf plan.policy plan.limits) me)
  asked_notes plan shared slots id me i same one some_ all is_plain =
      subst (λ (z : Plan). Allows (rules z) slots id me i (λ n. n)
      (λ n. Notes (office_of out faults got passed (key_by plan)) (key_by plan) (IsMade out plan)
      (IsOf plan.policy plan.limits) me)) (sym same)
      (notes (office_of out faults got passed (key_by plan)) (key_by plan) (IsMade out plan)
      (IsOf plan.policy plan.limits) (office_keeps out faults got passed plan.policy plan.limits (key_by plan))
      (made_is out faults got passed plan) some_ slots id me i one all is_plain)

  pub asked_forgets : (plan shared : Plan) (slots id : ℕ) (me : Known) (i : ℕ) (words : List ℕ) (office : Desk R)
      → shared ≡ plan → slots ≡ 1 → 0 < (key_by plan).seats
      → me ≡ (noted me.0.entries words office, (0, Some office) ∷ [])
      → Allows (rules shared) slots id me i (λ n. n) (λ n. Forgets me)
  asked_forgets plan shared slots id me i words office same one some_ is_noted =
      subst (λ (z : Plan). Allows (rules z) slots id me i (λ n. n) (λ n. Forgets me)) (sym same)
      (forgets (office_of out faults got passed (key_by plan)) (key_by plan) (IsMade out plan)
      (IsOf plan.policy plan.limits) (office_keeps out faults got passed plan.policy plan.limits (key_by plan))
      (made_is out faults got passed plan) some_ slots id me i words office one is_noted)
