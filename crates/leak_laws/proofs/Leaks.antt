-- The leaks of a pool are its marks that name a grant, in its live regions.
use Rattle.std.proofs.Common.{◌≡◌, ℕ, ◌≤◌, Bool, true, List, Option, sym, ap, subst, ◌∙◌, arith}
use Rattle.std.specs.Prelude.{length}
use Rattle.std.proofs.lemmas.Bool.Decides.{nat_tests}
use Rattle.pool_types.specs.declared.policy.Limits.{Limits}
use Rattle.pool_types.specs.declared.policy.Policy.{Policy}
use Rattle.pool_types.specs.declared.values.Region.{Region}
use Rattle.pool_types.specs.Policies.{IsAllowed}
use Rattle.pool_words.specs.declared.actions.Action.TheVariants.{Load}
use Rattle.pool_words.specs.declared.words.Word.{Word}
use Rattle.pool_words.specs.Words.{kind_of_word, at_of, marks, words_of}
use Rattle.word_codes.specs.declared.region_words.RegionWord.{RegionWord}
use Rattle.word_codes.specs.RegionWords.{region_of}
use Rattle.word_laws.specs.Memory.{memory}
use Rattle.word_laws.proofs.CallerLemmas.{actions_act_by_kind}
use Rattle.word_totals.specs.Reading.{Still, load}
use Rattle.step_depot.specs.Steps.{key_of}
use Rattle.step_runs.proofs.CallerLemmas.{run_stands}
use Rattle.step_laws.specs.Laws.{HasIndexOf, WordsSay}
use Rattle.step_laws.specs.Tasks.{tasks_of}
use Rattle.step_laws.proofs.CallerLemmas.{live_regions_lie_apart}
use Rattle.step_runs.specs.declared.entry.Entry.{Entry}
use Rattle.step_grants.proofs.CallerLemmas.{are_distinct, run_fits}
use Rattle.leak_laws.specs.Laws.{LeaksWereGranted}
use Rattle.leak_laws.proofs.Regions.{IsLive, all_here}

few_seats : (policy : Policy) (limits : Limits) → IsAllowed policy limits → limits.seats ≤ 64
few_seats policy limits allowed = let is_in = allowed.limits_in.0.0 in grind (arith, nat_tests)

-- a word that is read has its value by kind and index
module _ (s : Still) (sized : length s.words ≡ words_of s.key) where
  pub loads_by_kind : (w : Word) → load s w ≡ memory s.key s.words (kind_of_word w) (at_of w)
  unfolding load
  loads_by_kind w = (actions_act_by_kind s.key s.words (Load w) sized).sees

  -- a granule is in one live region
  pub one_region : {D : Type 0} (entries : ℕ → Entry D) → WordsSay s.key s.words (tasks_of entries)
      → (a b : RegionWord) (e : ℕ) → IsLive s a → IsLive s b → HasIndexOf a e → HasIndexOf b e → a ≡ b
  one_region entries say a b e here there low high =
      let mine = ap region_of (sym (loads_by_kind (Word.Region here.slot))) ∙ here.is in
      let its = ap region_of (sym (loads_by_kind (Word.Region there.slot))) ∙ there.is in
      let slot = say.apart here.slot there.slot e
      (subst (λ (r : RegionWord). r.live ≡ true) (sym mine) here.live)
      (subst (λ (r : RegionWord). r.live ≡ true) (sym its) there.live)
      (subst (λ (r : RegionWord). HasIndexOf r e) (sym mine) low)
      (subst (λ (r : RegionWord). HasIndexOf r e) (sym its) high) in
      sym here.is ∙ ap (λ (n : ℕ). region_of (load s (Word.Region n))) slot ∙ there.is

module _ {R : Type 0} (out : R → List Region) (faults : R → ℕ) (got : R → ℕ → Option Region → R → Type 0)
    (passed : R → Region → Bool → R → Type 0) where
  pub leaks_were_granted : LeaksWereGranted out faults got passed
  leaks_were_granted policy limits raw words home entries locals allowed none run only =
      let k = key_of policy limits in
      let s : Still = record { key = k; words = words; locals = locals } in
      let sized = (run_stands run).sized in
      let fit = run_fits (few_seats policy limits allowed) run only in
      let say = live_regions_lie_apart out faults got passed policy limits raw words home entries allowed none run
      only in
      let all = all_here s (memory k words marks) fit.apart.one (λ u. loads_by_kind s sized (Word.Mark u))
      (one_region s sized entries say) in
      record {
        granted = λ leak inside. let at = (all.each leak inside).between in
            (are_distinct k words entries fit).named at.unit leak.grant at.there;
        once = all.once;
      }
