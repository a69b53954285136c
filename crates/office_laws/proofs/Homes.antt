-- The office at home, granules outside, and that what was loaded stays.
use Rattle.std.proofs.Common.{◌≡◌, ◌≢◌, inl, inr, ℕ, Bool, true, false, Option, Some, None}
use Rattle.std.proofs.Common.{refl, sym, ap, subst, arith, ◌∙◌}
use Rattle.std.proofs.lemmas.Bool.Decides.{nat_tests}
use Rattle.pool_types.specs.declared.policy.RegionRec.{RegionRec}
use Rattle.pool_words.specs.declared.words.Key.{Key}
use Rattle.pool_words.specs.declared.words.Word.{Word}
use Rattle.pool_words.specs.declared.actions.OfficeJob.{OfficeJob}
use Rattle.pool_words.specs.Words.{number, kind_of_word, office_locks, regions, bases}
use Rattle.word_codes.specs.declared.region_words.RegionWord.{RegionWord}
use Rattle.word_codes.specs.Guards.{guard_word}
use Rattle.word_codes.specs.declared.guards.Guard.{Guard}
use Rattle.word_codes.specs.Locks.{holder_of}
use Rattle.word_codes.specs.RegionWords.{region_of, has_granule}
use Rattle.region_steps.specs.declared.office.OfficeAt.{OfficeAt}
use Rattle.region_steps.specs.declared.office.OfficeEnd.{OfficeEnd}
use Rattle.region_steps.specs.Office.{region_word_of, wall_of, office_course}
use Rattle.word_laws.specs.Memory.{Mem, put, stored, after}
use Rattle.word_laws.proofs.CallerLemmas.{put-same}
use Rattle.office_laws.specs.Regions.{Task, Shadow, core_in, Holds, WordFits, coming, IsEntered, OfficeGood}
use Rattle.office_laws.specs.Steps.{call_of, IsPlain, OfficeStep}
use Rattle.office_laws.specs.Laws.{SameRegions, RecordsAtHomeAreThoseOfTheWords, HasGranule, IsOutside}
use Rattle.office_laws.specs.Laws.{GranulesAreOutsideWhereNoWordHasThem, LoadedRegionsStay}
use Rattle.office_laws.proofs.Words.{stored-apart, same_after, free_reads}
use Rattle.office_laws.proofs.Seats.{one_holder}
use Rattle.office_laws.proofs.Examples.{locked_same}

-- a seat by which a region comes is at the office
coming_holds : (task : Task) (one : RegionRec) → coming task ≡ Some one → Holds task
coming_holds Task.Away one is = absurd (cc)
coming_holds (Task.At job OfficeAt.Lock) one is = absurd (cc)
coming_holds (Task.At job (OfficeAt.Region slot given)) one is = tt
coming_holds (Task.At job (OfficeAt.Take given)) one is = tt
coming_holds (Task.At job (OfficeAt.Base other)) one is = tt
coming_holds (Task.At job (OfficeAt.Enter other)) one is = tt
coming_holds (Task.At job (OfficeAt.WallSize other)) one is = tt
coming_holds (Task.At job (OfficeAt.WallLeft other)) one is = tt
coming_holds (Task.At job (OfficeAt.FirstSize other)) one is = tt
coming_holds (Task.At job (OfficeAt.LastLeft other)) one is = tt
coming_holds (Task.At job (OfficeAt.Remove given)) one is = tt
coming_holds (Task.At job (OfficeAt.Back end)) one is = tt
coming_holds (Task.At job (OfficeAt.Unlock end)) one is = tt

pub records_at_home_are_those_of_the_words : RecordsAtHomeAreThoseOfTheWords
records_at_home_are_those_of_the_words g m tasks s good free =
    let same = by (g.out s) (g.live s) refl refl in record {
      same = same;
      words = subst (λ q. WordFits q (region_of (m regions s)) (m bases s)) (sym same) (good.words_fit s);
    }
  where
    nobody : (seat : ℕ) → Holds (tasks seat) → ⊥
    nobody seat holds =
        let q : None ≡ Some seat = sym (ap holder_of free ∙ free_reads) ∙ good.lock_fits.held seat holds in
        absurd (cc)

    entered : (one : RegionRec) → IsEntered g tasks s one → g.live s ≡ Some one
    entered one (inl live) = live
    entered one (inr (seat, is)) = absurd (nobody seat (coming_holds (tasks seat) one is))

    by : (out live : Option RegionRec) → g.out s ≡ out → g.live s ≡ live → g.out s ≡ g.live s
    by None None one two = one ∙ sym two
    by (Some a) live one two = one ∙ sym (entered a (good.records_fit.entered s a one))
    by None (Some a) one two = absurd (let q : None ≡ Some a = sym one ∙ good.records_fit.known s a two in cc)

-- what a region's word says of a granule
says : (one : RegionRec) (e : ℕ) → HasGranule one e → has_granule (region_word_of one) e ≡ true
says one e has = let low = has.0 in let high = has.1 in grind (arith, nat_tests)

said : (one : RegionRec) (e : ℕ) → has_granule (region_word_of one) e ≡ true → HasGranule one e
said one e is = (grind (arith, nat_tests), grind (arith, nat_tests))

dead : (w : RegionWord) (e : ℕ) → w.live ≡ false → has_granule w e ≡ false
dead w e is = grind (arith, is)

pub granules_are_outside_where_no_word_has_them : GranulesAreOutsideWhereNoWordHasThem
granules_are_outside_where_no_word_has_them g m tasks e good = record {
  outside = λ none s one live has.
      let word = subst (λ q. WordFits q (region_of (m regions s)) (m bases s)) live (good.words_fit s) in
      let q : true ≡ false = sym (says one e has) ∙ ap (λ w. has_granule w e) (sym word.0) ∙ none s in absurd (cc);
  seen = λ outside s. by outside s (g.live s) refl (good.words_fit s) (has_granule (region_of (m regions s)) e) refl;
}
  where
    by : IsOutside g e → (s : ℕ) (q : Option RegionRec) → g.live s ≡ q
        → WordFits q (region_of (m regions s)) (m bases s) → (b : Bool)
        → has_granule (region_of (m regions s)) e ≡ b → has_granule (region_of (m regions s)) e ≡ false
    by outside s None live fits b is = dead (region_of (m regions s)) e fits
    by outside s (Some one) live fits true is =
        absurd (outside s one live (said one e (ap (λ w. has_granule w e) (sym fits.0) ∙ is)))
    by outside s (Some one) live fits false is = is

-- a step at the edges of a region is on other words
edge_same : (k : Key) (m : Mem) (w : Word) (v : ℕ) → number (kind_of_word w) ≢ number regions
    → number (kind_of_word w) ≢ number bases → SameRegions m (stored k m w v)
edge_same k m w v no_region no_base = record {
  words = stored-apart k m w v regions no_region;
  bases' = stored-apart k m w v bases no_base;
}

plain_same : (k : Key) (m : Mem) (t : ℕ) (job : OfficeJob) (at : OfficeAt) → IsPlain at
    → SameRegions m (after k m (office_course (call_of t job) at))
plain_same k m t job OfficeAt.Lock plain = absurd plain
plain_same k m t job (OfficeAt.Region slot given) plain = record { words = refl; bases' = refl }
plain_same k m t job (OfficeAt.Take given) plain = absurd plain
plain_same k m t job (OfficeAt.Base one) plain = absurd plain
plain_same k m t job (OfficeAt.Enter one) plain = absurd plain
plain_same k m t job (OfficeAt.WallSize one) plain =
    edge_same k m (Word.Size (wall_of one)) (guard_word Guard.Wall) (λ z. omega arith) (λ z. omega arith)
plain_same k m t job (OfficeAt.WallLeft one) plain =
    edge_same k m (Word.Left one.first) (guard_word Guard.Wall) (λ z. omega arith) (λ z. omega arith)
plain_same k m t job (OfficeAt.FirstSize one) plain =
    edge_same k m (Word.Size one.first) (guard_word Guard.Used) (λ z. omega arith) (λ z. omega arith)
plain_same k m t job (OfficeAt.LastLeft one) plain =
    edge_same k m (Word.Left (wall_of one)) (guard_word Guard.Used) (λ z. omega arith) (λ z. omega arith)
plain_same k m t job (OfficeAt.Remove given) plain = absurd plain
plain_same k m t job (OfficeAt.Back end) plain = record { words = refl; bases' = refl }
plain_same k m t job (OfficeAt.Unlock end) plain = absurd plain

-- the one seat that is at the office has gone on
moved : (g : Shadow) (m : Mem) (tasks : ℕ → Task) (t seat : ℕ) (task next : Task) → OfficeGood g (core_in m tasks)
    → tasks t ≡ task → Holds task → Holds (tasks seat) → put tasks t next seat ≡ tasks seat → next ≡ task
moved g m tasks t seat task next good is has holds stays =
    let same = one_holder (holder_of (m office_locks 0)) tasks t seat good.lock_fits (subst Holds (sym is) has) holds in
    sym (put-same tasks t next) ∙ ap (put tasks t next) (sym same) ∙ stays ∙ ap tasks same ∙ is

abbrev stage_of : OfficeAt → ℕ
stage_of OfficeAt.Lock = 0
stage_of (OfficeAt.Region slot given) = 1
stage_of (OfficeAt.Take given) = 2
stage_of (OfficeAt.Base one) = 3
stage_of (OfficeAt.Enter one) = 4
stage_of (OfficeAt.WallSize one) = 5
stage_of (OfficeAt.WallLeft one) = 6
stage_of (OfficeAt.FirstSize one) = 7
stage_of (OfficeAt.LastLeft one) = 8
stage_of (OfficeAt.Remove given) = 9
stage_of (OfficeAt.Back end) = 10
stage_of (OfficeAt.Unlock end) = 11

abbrev stage_in : Task → ℕ
stage_in Task.Away = 12
stage_in (Task.At job at) = stage_of at

pub loaded_regions_stay : LoadedRegionsStay
loaded_regions_stay k g m tasks h m' tasks' seat good (OfficeStep.begins t job is) holds stays =
    record { words = refl; bases' = refl }
loaded_regions_stay k g m tasks h m' tasks' seat good (OfficeStep.locks t job few is) holds stays =
    locked_same k m t job
loaded_regions_stay k g m tasks h m' tasks' seat good (OfficeStep.plain t job at is plain) holds stays =
    plain_same k m t job at plain
loaded_regions_stay k g m tasks h m' tasks' seat good (OfficeStep.comes t granules given one is fresh) holds stays =
    record { words = refl; bases' = refl }
loaded_regions_stay k g m tasks h m' tasks' seat good (OfficeStep.refused t granules given error is) holds stays =
    record { words = refl; bases' = refl }
loaded_regions_stay k g m tasks h m' tasks' seat good (OfficeStep.gives_back t first given is) holds stays =
    record { words = refl; bases' = refl }
loaded_regions_stay k g m tasks h m' tasks' seat good (OfficeStep.bases' t job one is) holds stays =
    absurd (let e = ap stage_in (moved g m tasks t seat (Task.At job (OfficeAt.Base one))
    (Task.At job (OfficeAt.Enter one)) good is tt holds stays) in let q : ◌≡◌ {A = ℕ} 4 3 = e in omega arith)
loaded_regions_stay k g m tasks h m' tasks' seat good (OfficeStep.enters t job one is) holds stays =
    absurd (let e = ap stage_in (moved g m tasks t seat (Task.At job (OfficeAt.Enter one))
    (Task.At job (OfficeAt.WallSize one)) good is tt holds stays) in let q : ◌≡◌ {A = ℕ} 5 4 = e in omega arith)
loaded_regions_stay k g m tasks h m' tasks' seat good (OfficeStep.removes t job given is) holds stays =
    absurd (let e = ap stage_in (moved g m tasks t seat (Task.At job (OfficeAt.Remove given))
    (Task.At job (OfficeAt.Back OfficeEnd.Given)) good is tt holds stays) in
    let q : ◌≡◌ {A = ℕ} 10 9 = e in omega arith)
loaded_regions_stay k g m tasks h m' tasks' seat good (OfficeStep.unlocks t job end is) holds stays =
    edge_same k m Word.OfficeLock 0 (λ z. omega arith) (λ z. omega arith)
loaded_regions_stay k g m tasks h m' tasks' seat good (OfficeStep.others action other) holds stays =
    let same = same_after k m action other in record { words = same.words; bases' = same.bases' }
