-- A region that is given back is out no more, nor is another one where it began.
use Rattle.std.proofs.Common.{◌≡◌, inl, inr, ℕ, true, false, Option, Some, None}
use Rattle.std.proofs.Common.{refl, sym, ap, subst, ◌∙◌, arith}
use Rattle.std.proofs.lemmas.Bool.Decides.{nat_tests}
use Rattle.pool_types.specs.declared.policy.RegionRec.{RegionRec}
use Rattle.pool_words.specs.Words.{regions, bases}
use Rattle.pool_words.specs.declared.actions.OfficeJob.{OfficeJob}
use Rattle.region_steps.specs.declared.office.OfficeAt.{OfficeAt}
use Rattle.region_steps.specs.Office.{region_word_of}
use Rattle.word_codes.specs.RegionWords.{region_of, has_granule}
use Rattle.word_laws.specs.Memory.{Mem}
use Rattle.word_laws.proofs.CallerLemmas.{each}
use Rattle.office_laws.specs.Regions.{Task, Shadow, core_in, Holds, WordFits, coming, IsEntered, AreApart, OfficeGood}
use Rattle.office_laws.specs.Steps.{shadow_removed}
use Rattle.office_laws.proofs.CallerLemmas.{fits_at, one_holder}
use Rattle.office_laws.proofs.Examples.{given_regions_are_found}
use Rattle.step_laws.specs.Desks.{IsGone}

coming_holds : (task : Task) (one : RegionRec) → coming task ≡ Some one → Holds task
coming_holds Task.Away one is = absurd (cc)
coming_holds (Task.At job OfficeAt.Lock) one is = absurd (cc)
coming_holds (Task.At job _) one is = tt

-- another region does not begin in this one
begins_apart : (a one : RegionRec) (first : ℕ) → has_granule (region_word_of one) first ≡ true → a.first ≡ first
    → AreApart a one → ⊥
begins_apart a one first has starts (inl low) = grind (arith, nat_tests)
begins_apart a one first has starts (inr high) = grind (arith, nat_tests)

-- a region that does not have the granule at which it begins has none
empty_at : (a : RegionRec) (first : ℕ) → has_granule (region_word_of a) first ≡ false → a.first ≡ first
    → a.granules ≡ 0
empty_at a first none starts = grind (arith, nat_tests)

module _ (g : Shadow) (m : Mem) (tasks : ℕ → Task) (t first : ℕ) (good : OfficeGood g (core_in m tasks)) where
  found_gone : (s : ℕ) → tasks t ≡ Task.At (OfficeJob.Give first) (OfficeAt.Remove (Some s))
      → IsGone (shadow_removed (Some s) g) first
  found_gone s is =
      let given = given_regions_are_found g m tasks t first s good is in
      λ n a. each (λ n q. q ≡ Some a → a.first ≡ first → a.granules ≡ 0) g.out s None
      (λ n ne out starts. absurd (begins_apart a given.one first given.has starts
      (good.out_fits.apart n s a given.one ne out (good.records_fit.known s given.one given.live))))
      (λ none. absurd (cc)) n

  none_gone : tasks t ≡ Task.At (OfficeJob.Give first) (OfficeAt.Remove None) → IsGone g first
  none_gone is n a out starts = empty_at a first (word (live (good.records_fit.entered n a out))) starts
    where
      live : IsEntered g tasks n a → g.live n ≡ Some a
      live (inl there) = there
      live (inr (o, comes)) =
          let mine = subst Holds (sym is) tt in
          let same = one_holder (core_in m tasks).lock tasks t o good.lock_fits mine
          (coming_holds (tasks o) a comes) in
          absurd (let q : None ≡ Some a = sym (ap coming is) ∙ ap (λ x. coming (tasks x)) (sym same) ∙ comes in cc)

      word : g.live n ≡ Some a → has_granule (region_word_of a) first ≡ false
      word there =
          let fits = subst (λ q. WordFits q (region_of (m regions n)) (m bases n)) there (good.words_fit n) in
          let slot = (good.out_fits.each n a out).slot in
          ap (λ w. has_granule w first) (sym fits.0)
          ∙ (fits_at g (core_in m tasks) t (Task.At (OfficeJob.Give first) (OfficeAt.Remove None)) is good).none refl n
          (omega (arith, slot))

  pub removed_gone : (given : Option ℕ) → tasks t ≡ Task.At (OfficeJob.Give first) (OfficeAt.Remove given)
      → IsGone (shadow_removed given g) first
  removed_gone None is = none_gone is
  removed_gone (Some s) is = found_gone s is
