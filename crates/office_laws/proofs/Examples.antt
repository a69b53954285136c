-- Who changes regions, numbers, a new pool, the office that is named, and what the wrong definitions come to.
use Rattle.std.proofs.Common.{◌≡◌, inl, inr, ℕ, ◌<◌, ◌≤◌, Bool, true, false, cond, eqb, Option, Some, None}
use Rattle.std.proofs.Common.{refl, sym, ap, subst, arith, ◌∙◌}
use Rattle.pool_types.specs.declared.policy.RegionRec.{RegionRec}
use Rattle.pool_words.specs.declared.words.Key.{Key}
use Rattle.pool_words.specs.declared.words.Word.{Word}
use Rattle.pool_words.specs.declared.actions.OfficeJob.{OfficeJob}
use Rattle.pool_words.specs.Words.{office_locks, regions, bases}
use Rattle.word_codes.specs.declared.region_words.RegionWord.{RegionWord}
use Rattle.word_codes.specs.Locks.{holder_of, lock_word}
use Rattle.word_codes.specs.Places.{slot_of}
use Rattle.word_codes.specs.RegionWords.{region_of, has_granule}
use Rattle.region_steps.specs.declared.office.OfficeAt.{OfficeAt}
use Rattle.region_steps.specs.Office.{region_word_of, office_course}
use Rattle.word_laws.specs.Memory.{Mem, stored, after}
use Rattle.word_laws.proofs.CallerLemmas.{equal_or}
use Rattle.office_laws.specs.Regions.{Task, Shadow, core_in, Holds, WordFits, AreApart, RegionFits, gives}
use Rattle.office_laws.specs.Regions.{TaskFits, OfficeGood}
use Rattle.office_laws.specs.Steps.{call_of, IsPlain, shadow_removed, OfficeStep, OfficeRun}
use Rattle.office_laws.specs.Steps.OfficeRun.{starts, steps}
use Rattle.office_laws.specs.Named.{third, fourth, no_region_word, named_regions, giving, named_office}
use Rattle.office_laws.specs.Laws.{IsAtOffice, SameRegions, OnlyTheOfficeChangesRegions, NumbersNeverReturn, FindsGiven}
use Rattle.office_laws.specs.Laws.{GivenRegionsAreFound, FreshOfficesHaveNoRegions, NamedOfficeStands}
use Rattle.office_laws.specs.Wrong.{TouchAtMost, EarlyRemovalsAreWrong, WalllessRegionsAreWrong}
use Rattle.word_laws.proofs.CallerLemmas.{put-other, each}
use Rattle.office_laws.proofs.Words.{stored-apart, same_after, free_reads}
use Rattle.office_laws.proofs.Seats.{one_holder, fits_at}

-- who changes regions
pub at_office : (g : Shadow) (m : Mem) (tasks : ℕ → Task) (t : ℕ) (task : Task) → OfficeGood g (core_in m tasks)
    → tasks t ≡ task → Holds task → IsAtOffice m tasks t
at_office g m tasks t task good is holds =
    let mine = subst Holds (sym is) holds in record {
      named = good.lock_fits.held t mine;
      alone = λ o other. one_holder (holder_of (m office_locks 0)) tasks t o good.lock_fits mine other;
    }

plain_holds : (at : OfficeAt) (job : OfficeJob) → IsPlain at → Holds (Task.At job at)
plain_holds OfficeAt.Lock job plain = plain
plain_holds (OfficeAt.Region slot given) job plain = tt
plain_holds (OfficeAt.Take given) job plain = tt
plain_holds (OfficeAt.Base one) job plain = tt
plain_holds (OfficeAt.Enter one) job plain = tt
plain_holds (OfficeAt.WallSize one) job plain = tt
plain_holds (OfficeAt.WallLeft one) job plain = tt
plain_holds (OfficeAt.FirstSize one) job plain = tt
plain_holds (OfficeAt.LastLeft one) job plain = tt
plain_holds (OfficeAt.Remove given) job plain = tt
plain_holds (OfficeAt.Back end) job plain = tt
plain_holds (OfficeAt.Unlock end) job plain = tt

pub locked_same : (k : Key) (m : Mem) (t : ℕ) (job : OfficeJob)
    → SameRegions m (after k m (office_course (call_of t job) OfficeAt.Lock))
locked_same k m t job = by (eqb (m office_locks 0) 0)
  where
    by : (b : Bool) → SameRegions m (cond b (stored k m Word.OfficeLock (lock_word t)) m)
    by true = record {
      words = stored-apart k m Word.OfficeLock (lock_word t) regions (λ z. omega arith);
      bases' = stored-apart k m Word.OfficeLock (lock_word t) bases (λ z. omega arith);
    }
    by false = record { words = refl; bases' = refl }

pub only_the_office_changes_regions : OnlyTheOfficeChangesRegions
only_the_office_changes_regions k g m tasks h m' tasks' good (OfficeStep.begins t job is) =
    inl (record { words = refl; bases' = refl })
only_the_office_changes_regions k g m tasks h m' tasks' good (OfficeStep.locks t job few is) =
    inl (locked_same k m t job)
only_the_office_changes_regions k g m tasks h m' tasks' good (OfficeStep.plain t job at is plain) =
    inr (t, at_office g m tasks t (Task.At job at) good is (plain_holds at job plain))
only_the_office_changes_regions k g m tasks h m' tasks' good (OfficeStep.comes t granules given one is may) =
    inl (record { words = refl; bases' = refl })
only_the_office_changes_regions k g m tasks h m' tasks' good (OfficeStep.refused t granules given error is) =
    inl (record { words = refl; bases' = refl })
only_the_office_changes_regions k g m tasks h m' tasks' good (OfficeStep.gives_back t first given is) =
    inl (record { words = refl; bases' = refl })
only_the_office_changes_regions k g m tasks h m' tasks' good (OfficeStep.bases' t job one is) =
    inr (t, at_office g m tasks t (Task.At job (OfficeAt.Base one)) good is tt)
only_the_office_changes_regions k g m tasks h m' tasks' good (OfficeStep.enters t job one is) =
    inr (t, at_office g m tasks t (Task.At job (OfficeAt.Enter one)) good is tt)
only_the_office_changes_regions k g m tasks h m' tasks' good (OfficeStep.removes t job given is) =
    inr (t, at_office g m tasks t (Task.At job (OfficeAt.Remove given)) good is tt)
only_the_office_changes_regions k g m tasks h m' tasks' good (OfficeStep.unlocks t job end is) =
    inr (t, at_office g m tasks t (Task.At job (OfficeAt.Unlock end)) good is tt)
only_the_office_changes_regions k g m tasks h m' tasks' good (OfficeStep.others action other) =
    let same = same_after k m action other in inl (record { words = same.words; bases' = same.bases' })

-- numbers
pub record Later (g h : Shadow) : Type 0 where
  pub counter : g.counter ≤ h.counter
  pub old : (s : ℕ) (one : RegionRec) → h.out s ≡ Some one → one.number < g.counter → g.out s ≡ Some one

later_same : (g : Shadow) → Later g g
later_same g = record { counter = omega arith; old = λ s one is low. is }

later_removed : (g : Shadow) (given : Option ℕ) → Later g (shadow_removed given g)
later_removed g None = later_same g
later_removed g (Some slot) = record {
  counter = omega arith;
  old = λ s one is low. each (λ s q. q ≡ Some one → g.out s ≡ Some one) g.out slot None (λ s _ z. z)
      (λ z. absurd (cc)) s is;
}

later_step : (k : Key) (g : Shadow) (m : Mem) (tasks : ℕ → Task) (h : Shadow) (m' : Mem) (tasks' : ℕ → Task)
    → OfficeStep k g m tasks h m' tasks' → Later g h
later_step k g m tasks h m' tasks' (OfficeStep.begins t job is) = later_same g
later_step k g m tasks h m' tasks' (OfficeStep.locks t job few is) = later_same g
later_step k g m tasks h m' tasks' (OfficeStep.plain t job at is plain) = later_same g
later_step k g m tasks h m' tasks' (OfficeStep.comes t granules given one is may) = record {
  counter = let n = may.number in omega arith;
  old = λ s a z low. each (λ s q. q ≡ Some a → g.out s ≡ Some a) g.out (slot_of one.number) (Some one) (λ s _ w. w)
      (λ w. absurd (let same : one ≡ a = cc in let n = may.number in
      let e = ap (λ (x : RegionRec). x.number) same in omega arith)) s z;
}
later_step k g m tasks h m' tasks' (OfficeStep.refused t granules given error is) = later_same g
later_step k g m tasks h m' tasks' (OfficeStep.gives_back t first given is) = later_same g
later_step k g m tasks h m' tasks' (OfficeStep.bases' t job one is) = later_same g
later_step k g m tasks h m' tasks' (OfficeStep.enters t job one is) = record {
  counter = omega arith;
  old = λ s a z low. z;
}
later_step k g m tasks h m' tasks' (OfficeStep.removes t job given is) = later_removed g given
later_step k g m tasks h m' tasks' (OfficeStep.unlocks t job end is) = later_same g
later_step k g m tasks h m' tasks' (OfficeStep.others action other) = later_same g

pub later_run : (k : Key) (g : Shadow) (m : Mem) (tasks : ℕ → Task) (h : Shadow) (m' : Mem) (tasks' : ℕ → Task)
    → OfficeRun k g m tasks h m' tasks' → Later g h
later_run k g m tasks h m' tasks' starts = later_same g
later_run k g m tasks h m' tasks' (steps {g1} {m1} {t1} run step) =
    let before = later_run k g m tasks g1 m1 t1 run in
    let now = later_step k g1 m1 t1 h m' tasks' step in record {
      counter = let a = before.counter in let b = now.counter in omega arith;
      old = λ s one is low. before.old s one (now.old s one is (let a = before.counter in omega arith)) low;
    }

pub numbers_never_return : NumbersNeverReturn
numbers_never_return k g m tasks h m' tasks' s one run is low = (later_run k g m tasks h m' tasks' run).old s one is low

-- the slot that was found
pub given_regions_are_found : GivenRegionsAreFound
given_regions_are_found g m tasks t first s good is =
    let fits = fits_at g (core_in m tasks) t (Task.At (OfficeJob.Give first) (OfficeAt.Remove (Some s))) is good in
    by (g.live s) refl (good.words_fit s) (fits.some s refl).1
  where
    live : (w : RegionWord) → has_granule w first ≡ true → w.live ≡ true
    live w is = by w.live refl is
      where
        by : (b : Bool) → w.live ≡ b → has_granule w first ≡ true → b ≡ true
        by true at is = refl
        by false at is = absurd (grind (arith, at))

    by : (q : Option RegionRec) → g.live s ≡ q → WordFits q (region_of (m regions s)) (m bases s)
        → has_granule (region_of (m regions s)) first ≡ true → FindsGiven g s first
    by None at fits has = absurd (let z = live (region_of (m regions s)) has in
        let q : true ≡ false = sym z ∙ fits in cc)
    by (Some one) at fits has = record {
      one = one;
      live = at;
      has = subst (λ w. has_granule w first ≡ true) fits.0 has;
    }

-- a new pool
zero_live : (region_of 0).live ≡ false
unfolding region_of
zero_live = refl

pub fresh_offices_have_no_regions : FreshOfficesHaveNoRegions
fresh_offices_have_no_regions = record {
  lock_fits = record {
    held = λ seat holds. absurd holds;
    named = λ seat is. absurd (let q : None ≡ Some seat = sym free_reads ∙ is in cc);
  };
  words_fit = λ n. zero_live;
  records_fit = record { known = λ s one is. absurd (cc); entered = λ s one is. absurd (cc) };
  out_fits = record { each = λ s one is. absurd (cc); apart = λ s o a b ne is w. absurd (cc) };
  tasks_fit = λ seat. tt;
}

-- the office that is named
only_third : (s : ℕ) (one : RegionRec) → named_regions.out s ≡ Some one → (s ≡ 3) × (one ≡ third)
only_third s one is = equal_or s 3
    (λ same. (
      same,
      (let q : Some third ≡ Some one = ap named_regions.out (sym same) ∙ is in
          let w : third ≡ one = cc in sym w),
    ))
    (λ ne. absurd (let q : None ≡ Some one = sym (put-other {A = Option RegionRec} (λ s. None) 3 (Some third) s ne) ∙ is
    in cc))

third_fits : RegionFits 4 3 third
third_fits = record {
  slot = refl;
  number = omega arith;
  fits = record { number = omega arith; first = omega arith; granules = omega arith; waste = omega arith };
}

pub named_office_stands : NamedOfficeStands
named_office_stands = record {
  lock_fits = record {
    held = each (λ o q. Holds q → Some 1 ≡ Some o) (λ seat. Task.Away) 1 giving (λ o _ z. absurd z) (λ _. refl);
    named = λ o z. let q : ◌≡◌ {A = ℕ} 1 o = cc in subst (λ x. Holds (named_office.tasks x)) q tt;
  };
  words_fit = λ n. equal_or n 3
      (λ same. subst (λ x. WordFits (named_regions.live x) (named_office.words x) (named_office.bases x)) (sym same)
      (refl, refl))
      (λ ne. subst (λ q. WordFits q (named_office.words n) (named_office.bases n))
      (sym (put-other {A = Option RegionRec} (λ s. None) 3 (Some third) n ne))
      (ap (λ (w : RegionWord). w.live) (put-other (λ s. no_region_word) 3 (region_word_of third) n ne)));
  records_fit = record { known = λ s one is. is; entered = λ s one is. inl is };
  out_fits = record {
    each = λ s one is. let at = only_third s one is in
        subst (λ x. RegionFits 4 x one) (sym at.0) (subst (RegionFits 4 3) (sym at.1) third_fits);
    apart = λ s o a b ne is w. absurd (ne ((only_third s a is).0 ∙ sym (only_third o b w).0));
  };
  tasks_fit = each (λ o q. TaskFits named_regions named_office q) (λ seat. Task.Away) 1 giving (λ o _. tt) (record {
    some = λ s z. let q : ◌≡◌ {A = ℕ} 3 s = cc in
        subst (λ x. (x < 64) × (gives (OfficeJob.Give 2) (named_office.words x) ≡ true)) q (omega arith, refl);
    none = λ z. absurd (cc);
  });
}

-- wrong definitions
pub early_removals_are_wrong : EarlyRemovalsAreWrong
early_removals_are_wrong removes =
    let after = removes 0 3 named_regions named_office refl named_office_stands in
    let clash : false ≡ true = ((after.tasks_fit 1).some 3 refl).1 in cc

pub wallless_regions_are_wrong : WalllessRegionsAreWrong
wallless_regions_are_wrong comes =
    let after = comes named_regions fourth (omega arith) refl
    (record { number = omega arith; first = omega arith; granules = omega arith; waste = omega arith })
    (λ s other is. subst (λ x. TouchAtMost x fourth) (sym (only_third s other is).1) (inl (omega arith)))
    named_office_stands.out_fits in
    touch (after.apart 3 4 third fourth (λ z. omega arith) refl refl)
  where
    touch : AreApart third fourth → ⊥
    touch (inl low) = omega arith
    touch (inr high) = omega arith
