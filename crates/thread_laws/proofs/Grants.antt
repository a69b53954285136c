-- Grants: what a run says of its seats is so of the heaps that threads have.
use Rattle.std.proofs.Common.{◌≡◌, ℕ, ◌≤◌, Bool, List, Option, Some, ap, ◌∙◌, arith}
use Rattle.std.proofs.lemmas.Bool.Decides.{nat_tests}
use Rattle.pool_types.specs.declared.policy.Limits.{Limits}
use Rattle.pool_types.specs.declared.policy.Policy.{Policy}
use Rattle.pool_types.specs.declared.values.Grant.{Grant}
use Rattle.pool_types.specs.declared.values.Region.{Region}
use Rattle.pool_types.specs.Policies.{IsAllowed}
use Rattle.pool_words.specs.declared.words.Key.{Key}
use Rattle.step_runs.specs.declared.entry.Entry.{Entry}
use Rattle.step_runs.specs.Runs.{Callback}
use Rattle.atomic_driver.specs.declared.rule.View.{View}
use Rattle.atomic_driver.specs.Rule.{key_by, Rule}
use Rattle.step_grants.specs.Grants.{grant_in}
use Rattle.step_grants.proofs.CallerLemmas.{AllFit, are_distinct, run_fits}
use Rattle.thread_laws.specs.Tables.{HasEntry, KeepsGrants}
use Rattle.thread_laws.specs.Laws.{TablesKeepGrants}
use Rattle.thread_laws.proofs.Entries.{its_entry, only_its_seats}

few_seats : (policy : Policy) (limits : Limits) → IsAllowed policy limits → limits.seats ≤ 64
few_seats policy limits allowed = let is_in = allowed.limits_in.0.0 in grind (arith, nat_tests)

module _ {D : Type 0} (c : Callback D) (k : Key) (Is : D → Type 0) (words : List ℕ) (slot : Option D)
    (views : List (View D)) (most : k.seats ≤ 64) (rule : Rule c k Is words slot views) where
  fit : AllFit k words rule.all
  fit = run_fits most rule.run (only_its_seats rule)

  in_run : (e : Entry D) → HasEntry views e → (i : ℕ) (grant : Grant) → grant_in e.grants i ≡ Some grant
      → grant_in (rule.all e.seat).grants i ≡ Some grant
  in_run e has i grant is = ap (λ (x : Entry D). grant_in x.grants i) (its_entry rule e has) ∙ is

  ended_in_run : (e : Entry D) → HasEntry views e → (i : ℕ) (grant : Grant) → grant_in e.frees i ≡ Some grant
      → grant_in (rule.all e.seat).frees i ≡ Some grant
  ended_in_run e has i grant is = ap (λ (x : Entry D). grant_in x.frees i) (its_entry rule e has) ∙ is

  pub keeps_grants : KeepsGrants k words views
  keeps_grants = record {
    one = fit.apart.one;
    granted = λ e f has other i j grant is too. (are_distinct k words rule.all fit).distinct e.seat i f.seat j grant
        (in_run e has i grant is) (in_run f other j grant too);
    ended = λ e f has other i j grant is too. fit.ended.once e.seat i f.seat j grant (ended_in_run e has i grant is)
        (ended_in_run f other j grant too);
    gone = λ e has i grant is u at. fit.ended.gone e.seat i grant (ended_in_run e has i grant is) u at;
  }

module _ {R : Type 0} (out : R → List Region) (faults : R → ℕ) (got : R → ℕ → Option Region → R → Type 0)
    (passed : R → Region → Bool → R → Type 0) where
  pub tables_keep_grants : TablesKeepGrants out faults got passed
  tables_keep_grants plan words slot views allowed rule =
      keeps_grants _ (key_by plan) _ words slot views (few_seats plan.policy plan.limits allowed) rule
