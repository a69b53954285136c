-- The step of a course, as a table asks it of a pool's seat.
use Rattle.std.proofs.Common.{◌≡◌, ℕ, ◌<◌, ◌≤◌, refl, sym, ap, ◌∙◌, subst, arith}
use Rattle.std.specs.Prelude.{Option, Bool, List}
use mathlib.Core.Option.{some}
use Rattle.pool_types.specs.declared.values.Region.{Region}
use Rattle.pool_words.specs.declared.words.Key.{Key}
use Rattle.pool_words.specs.declared.words.Word.{Word}
use Rattle.pool_words.specs.declared.actions.Action.{Action}
use Rattle.pool_words.specs.Words.{words_of, index_of}
use Rattle.regions.specs.Offices.{Desk}
use Rattle.step_local.specs.declared.frames.Local.{Local}
use Rattle.step_local.specs.Course.{course}
use Rattle.step_runs.specs.declared.entry.Entry.{Entry}
use Rattle.step_runs.specs.Callbacks.{office_of}
use Rattle.step_runs.specs.Laws.{IsOf}
use Rattle.step_runs.proofs.CallerLemmas.{office_keeps}
use Rattle.atomic_table.specs.Table.{State, Me, Allows}
use Rattle.atomic_driver.specs.declared.rule.Plan.{Plan}
use Rattle.atomic_driver.specs.declared.rule.View.{View}
use Rattle.atomic_driver.specs.Rule.{key_by, home_of, IsMade, PoolRule}
use Rattle.atomic_driver.specs.Steps.{word_of, becomes, taught, PoolReady, PoolSteps}
use Rattle.atomic_driver.proofs.Allowed.{allowed, allowed_blind}

-- every pool has words
pub some_words : (k : Key) → 0 < words_of k
some_words k = omega arith

module _ {R : Type 0} (out : R → List Region) (faults : R → ℕ) (got : R → ℕ → Option Region → R → Type 0)
    (passed : R → Region → Bool → R → Type 0) where
  -- the office of a new pool is the pool's
  pub made_is : (plan : Plan) (one : Desk R) → IsMade out plan one → IsOf plan.policy plan.limits one
  made_is plan one made =
      subst (IsOf plan.policy plan.limits) (sym made.desk_is) (record { policy_is = refl; limits_are = refl })

  abbrev pub rule_by : Plan → State (Option (Desk R)) (View (Desk R)) → Type 0
  rule_by plan s = PoolRule out faults got passed plan s.words (home_of s.homes) s.views

  module _ (plan shared : Plan) (slots id : ℕ) (me : Me (Option (Desk R)) (View (Desk R))) (j : ℕ)
      (e : Entry (Desk R)) (l ll : Local) (desk : Option (Desk R)) (w : Word) (k : Key) (same_plan : shared ≡ plan)
      (key_is : k ≡ key_by plan) (one : slots ≡ 1) (same_local : ll ≡ l) (word : word_of (course ll) ≡ some w)
      (ready : PoolReady out faults got passed plan j e l desk me) where
    pub asked : (i : ℕ) (action : Action) → course ll ≡ action → i ≡ index_of k w
        → Allows (rule_by shared) slots id me i (becomes action)
        (λ n. PoolSteps out faults got passed plan j e l desk me (taught action n))
    asked i action is here =
        let at : index_of (key_by plan) w ≡ i = sym (here ∙ ap (λ z. index_of z w) key_is) in
        let is_action : course l ≡ action = ap course (sym same_local) ∙ is in
        let base = allowed (office_of out faults got passed (key_by plan)) (key_by plan) (IsMade out plan)
        (IsOf plan.policy plan.limits) (office_keeps out faults got passed plan.policy plan.limits (key_by plan))
        (made_is plan) slots id me j e l desk w one ready (ap (λ z. word_of (course z)) (sym same_local) ∙ word) in
        subst (λ (z : Plan × ℕ × Action). Allows (rule_by z.0) slots id me z.1 (becomes z.2)
        (λ n. PoolSteps out faults got passed plan j e l desk me (taught z.2 n)))
        (λ x. (sym same_plan x, at x, is_action x)) base

    pub asked_blind : (i : ℕ) → words_of k ≤ index_of k w
        → Allows (rule_by shared) slots id me i (λ n. n)
        (λ n. PoolSteps out faults got passed plan j e l desk me 0)
    asked_blind i past =
        let base = allowed_blind (office_of out faults got passed (key_by plan)) (key_by plan) (IsMade out plan)
        (IsOf plan.policy plan.limits) (office_keeps out faults got passed plan.policy plan.limits (key_by plan))
        (made_is plan) slots id me j e l desk w one ready (ap (λ z. word_of (course z)) (sym same_local) ∙ word) i
        (subst (λ z. words_of z ≤ index_of z w) key_is past) in
        subst (λ (z : Plan). Allows (rule_by z) slots id me i (λ n. n)
        (λ n. PoolSteps out faults got passed plan j e l desk me 0)) (sym same_plan) base
