-- Each step, and so each run, keeps what holds of the office.
use Rattle.std.proofs.Common.{◌≡◌, ◌≢◌, inl, inr, ℕ, ◌+◌, ◌-◌, ◌<◌, Bool, true, false, cond, eqb, Option}
use Rattle.std.proofs.Common.{Some, None, refl, sym, ap, subst, arith, ◌∙◌}
use Rattle.std.specs.Prelude.{nat_lt, ◌==◌}
use Rattle.std.proofs.lemmas.Bool.Decides.{nat_tests}
use Rattle.std.proofs.lemmas.Bool.{eqb-true}
use Rattle.pool_types.specs.Limits.{most_regions}
use Rattle.pool_types.specs.declared.policy.RegionRec.{RegionRec}
use Rattle.pool_words.specs.declared.words.Key.{Key}
use Rattle.pool_words.specs.declared.words.Word.{Word}
use Rattle.pool_words.specs.declared.actions.Action.TheVariants.{Store}
use Rattle.pool_words.specs.declared.actions.OfficeJob.{OfficeJob}
use Rattle.pool_words.specs.declared.actions.Seen.{Seen}
use Rattle.pool_words.specs.Words.{office_locks, regions, bases}
use Rattle.word_codes.specs.declared.guards.Guard.{Guard}
use Rattle.word_codes.specs.declared.region_words.RegionWord.{RegionWord}
use Rattle.word_codes.specs.Guards.{guard_word}
use Rattle.word_codes.specs.Locks.{holder_of, lock_word}
use Rattle.word_codes.specs.Places.{slot_of}
use Rattle.word_codes.specs.RegionWords.{region_of, region_word}
use Rattle.word_codes.proofs.CallerLemmas.{locks_read_back, regions_read_back}
use Rattle.region_steps.specs.declared.office.OfficeAt.{OfficeAt}
use Rattle.region_steps.specs.declared.office.OfficeEnd.{OfficeEnd}
use Rattle.region_steps.specs.declared.office.OfficeNext.{OfficeNext}
use Rattle.region_steps.specs.Office.{region_word_of, wall_of, office_course, office_learn, office_gives}
use Rattle.region_steps.specs.Office.{office_looked, office_entered}
use Rattle.word_laws.specs.Memory.{Mem, put, write, stored, after, found}
use Rattle.word_laws.proofs.CallerLemmas.{equal_or}
use Rattle.office_laws.specs.Regions.{Task, Shadow, Core, core_in, Holds, WordFits, coming, IsEntered}
use Rattle.office_laws.specs.Regions.{AreApart, RegionFits, gives, IsFound, TaskFits, OfficeGood}
use Rattle.office_laws.specs.Steps.{call_of, task_after, IsFresh, shadow_came, shadow_entered, shadow_removed, IsPlain}
use Rattle.office_laws.specs.Steps.{OfficeStep}
use Rattle.office_laws.specs.Steps.OfficeRun.{starts, steps}
use Rattle.office_laws.specs.Laws.{StepsKeepOffice, RunsKeepOffice}
use Rattle.word_laws.proofs.CallerLemmas.{put-same, put-other, each, both}
use Rattle.office_laws.proofs.Words.{SameWords, to_stored, to_void, same_after, same_keeps, free_reads}
use Rattle.office_laws.proofs.Seats.{free_fits, one_holder, lock_stays, tasks_stay, entered_stay, goes_on, fits_at}

-- a seat that is not at the office has another task, and is not there with it
away_keeps : (g : Shadow) (s : Core) (t : ℕ) (task : Task) → OfficeGood g s → (Holds (s.tasks t) → ⊥)
    → (Holds task → ⊥) → coming (s.tasks t) ≡ None → OfficeGood g (record s { tasks = put s.tasks t task })
away_keeps g s t task good free now none = record {
  lock_fits = record {
    held = each (λ o q. Holds q → s.lock ≡ Some o) s.tasks t task (λ o _ is. good.lock_fits.held o is)
        (λ is. absurd (now is));
    named = λ o is. each (λ o q. Holds (s.tasks o) → Holds q) s.tasks t task (λ o _ h. h) (λ h. absurd (free h)) o
        (good.lock_fits.named o is);
  };
  words_fit = good.words_fit;
  records_fit = entered_stay g s.tasks t task none good.records_fit;
  out_fits = good.out_fits;
  tasks_fit = each (λ o q. TaskFits g (record s { tasks = put s.tasks t task }) q) s.tasks t task
      (λ o _. good.tasks_fit o) (free_fits g (record s { tasks = put s.tasks t task }) task now);
}

-- F1
locks-as : (k : Key) (g : Shadow) (m : Mem) (tasks : ℕ → Task) (t : ℕ) (job : OfficeJob) → t < 64
    → tasks t ≡ Task.At job OfficeAt.Lock → OfficeGood g (core_in m tasks)
    → OfficeGood g (core_in (after k m (office_course (call_of t job) OfficeAt.Lock))
    (put tasks t (task_after job OfficeAt.Lock (office_learn (call_of t job) OfficeAt.Lock
    (Seen.Word (found m (office_course (call_of t job) OfficeAt.Lock)))))))
locks-as k g m tasks t job few is good = by (eqb (m office_locks 0) 0) (m office_locks 0 == 0) refl refl
  where
    free : Holds (tasks t) → ⊥
    free holds = subst Holds is holds

    none : coming (tasks t) ≡ None
    none = ap coming is

    region : Task
    region = Task.At job (OfficeAt.Region 0 None)

    won : m office_locks 0 ≡ 0
        → OfficeGood g (core_in (stored k m Word.OfficeLock (lock_word t))
        (put tasks t (Task.At job (OfficeAt.Region 0 None))))
    won at =
        let open' : holder_of (m office_locks 0) ≡ None = ap holder_of at ∙ free_reads in
        to_stored (λ x. OfficeGood g (core_in x (put tasks t region))) k m Word.OfficeLock (lock_word t) (omega arith)
        (record {
          lock_fits = record {
            held = each (λ o q. Holds q → holder_of (lock_word t) ≡ Some o) tasks t region
                (λ o _ z. absurd (let q : None ≡ Some o = sym open' ∙ good.lock_fits.held o z in cc))
                (λ _. locks_read_back t (omega arith));
            named = λ o z. let q : Some t ≡ Some o = sym (locks_read_back t (omega arith)) ∙ z in
                subst (λ x. Holds (put tasks t region x)) (let w : t ≡ o = cc in w)
                (subst Holds (sym (put-same tasks t region)) tt);
          };
          words_fit = good.words_fit;
          records_fit = entered_stay g tasks t region none good.records_fit;
          out_fits = good.out_fits;
          tasks_fit = each (λ o q. TaskFits g (core_in m tasks) q) tasks t region (λ o _. good.tasks_fit o)
              (omega arith, record { some = λ s z. absurd (cc); none = λ _ s low. absurd (omega arith) });
        })

    by : (b c : Bool) → eqb (m office_locks 0) 0 ≡ b → (m office_locks 0 == 0) ≡ c
        → OfficeGood g (core_in (cond b (stored k m Word.OfficeLock (lock_word t)) m)
        (put tasks t (task_after job OfficeAt.Lock (cond c (OfficeNext.Goes
        (OfficeAt.Region 0 None)) OfficeNext.Waits))))
    by true true one two = won (eqb-true (m office_locks 0) 0 one)
    by false false one two = away_keeps g (core_in m tasks) t (Task.At job OfficeAt.Lock) good free (λ z. z) none
    by true false one two = absurd (let z = ap (λ x. x == 0) (eqb-true (m office_locks 0) 0 one) in
        let q : true ≡ false = sym z ∙ two in cc)
    by false true one two = absurd (grind (arith, nat_tests))

-- F5: one slot more was looked at
gives_is : (job : OfficeJob) (w : ℕ) → office_gives job w ≡ gives job (region_of w)
gives_is (OfficeJob.Obtain granules) w = refl
gives_is (OfficeJob.Give first) w = refl

found_more : (job : OfficeJob) (words : ℕ → RegionWord) (slot : ℕ) (given : Option ℕ) (b : Bool)
    → gives job (words slot) ≡ b → IsFound job words slot given
    → IsFound job words (slot + 1) (cond b (Some slot) given)
found_more job words slot given true is fits = record {
  some = λ s z. let same : slot ≡ s = cc in (omega arith, ap (λ x. gives job (words x)) (sym same) ∙ is);
  none = λ z. absurd (cc);
}
found_more job words slot given false is fits = record {
  some = λ s z. let old = fits.some s z in let low = old.0 in (omega arith, old.1);
  none = λ z s low. equal_or s slot (λ same. ap (λ x. gives job (words x)) same ∙ is)
      (λ ne. fits.none z s (omega arith));
}

looked : (k : Key) (g : Shadow) (m : Mem) (tasks : ℕ → Task) (t : ℕ) (job : OfficeJob) (slot : ℕ) (given : Option ℕ)
    → tasks t ≡ Task.At job (OfficeAt.Region slot given) → OfficeGood g (core_in m tasks)
    → OfficeGood g (core_in m (put tasks t (Task.At job (office_looked job slot given (m regions slot)))))
looked k g m tasks t job slot given is good =
    let fits = fits_at g (core_in m tasks) t (Task.At job (OfficeAt.Region slot given)) is good in
    on (cond (office_gives job (m regions slot)) (Some slot) given)
    (found_more job (core_in m tasks).words slot given (office_gives job (m regions slot))
    (sym (gives_is job (m regions slot))) fits.1) fits.0 (nat_lt slot (most_regions - 1)) refl
  where
    mine : Holds (tasks t)
    mine = subst Holds (sym is) tt

    on : (now : Option ℕ) → IsFound job (core_in m tasks).words (slot + 1) now → slot < most_regions → (b : Bool)
        → nat_lt slot (most_regions - 1) ≡ b
        → OfficeGood g (core_in m (put tasks t (Task.At job
        (cond b (OfficeAt.Region (slot + 1) now) (OfficeAt.Take now)))))
    on now fits low true is' = goes_on g (core_in m tasks) t (Task.At job (OfficeAt.Region (slot + 1) now)) good mine tt
        (ap coming is) (less is', fits)
      where
        less : nat_lt slot (most_regions - 1) ≡ true → slot + 1 < most_regions
        less h = grind (arith, nat_tests)
    on now fits low false is' = goes_on g (core_in m tasks) t (Task.At job (OfficeAt.Take now)) good mine tt
        (ap coming is) (subst (λ n. IsFound job (core_in m tasks).words n now) (last is') fits)
      where
        last : nat_lt slot (most_regions - 1) ≡ false → slot + 1 ≡ most_regions
        last h = grind (arith, nat_tests)

-- the region's edges, which are no words of the office
edge : (k : Key) (g : Shadow) (m : Mem) (tasks : ℕ → Task) (t : ℕ) (job : OfficeJob) (at : OfficeAt) (next : OfficeAt)
    (w : Word) (v : ℕ) → SameWords m (stored k m w v) → tasks t ≡ Task.At job at → Holds (Task.At job at)
    → Holds (Task.At job next) → coming (Task.At job at) ≡ None
    → TaskFits g (core_in m (put tasks t (Task.At job next))) (Task.At job next) → OfficeGood g (core_in m tasks)
    → OfficeGood g (core_in (stored k m w v) (put tasks t (Task.At job next)))
edge k g m tasks t job at next w v same is was now none fits good =
    same_keeps g m (stored k m w v) (put tasks t (Task.At job next)) same
    (goes_on g (core_in m tasks) t (Task.At job next) good (subst Holds (sym is) was) now (ap coming is ∙ none) fits)

size_same : (k : Key) (m : Mem) (x v : ℕ) → SameWords m (stored k m (Word.Size x) v)
size_same k m x v = same_after k m (Store (Word.Size x) v)
    (record { no_lock = λ z. omega arith; no_region = λ z. omega arith; no_base = λ z. omega arith })

left_same : (k : Key) (m : Mem) (x v : ℕ) → SameWords m (stored k m (Word.Left x) v)
left_same k m x v = same_after k m (Store (Word.Left x) v)
    (record { no_lock = λ z. omega arith; no_region = λ z. omega arith; no_base = λ z. omega arith })

walled : (k : Key) (g : Shadow) (m : Mem) (tasks : ℕ → Task) (t : ℕ) (job : OfficeJob) (one : RegionRec) (b : Bool)
    → tasks t ≡ Task.At job (OfficeAt.WallLeft one) → OfficeGood g (core_in m tasks)
    → OfficeGood g (core_in (stored k m (Word.Left one.first) (guard_word Guard.Wall))
    (put tasks t (Task.At job (cond b (office_entered one) (OfficeAt.FirstSize one)))))
walled k g m tasks t job one true is good =
    edge k g m tasks t job (OfficeAt.WallLeft one) (OfficeAt.Back (OfficeEnd.Obtained one)) (Word.Left one.first)
    (guard_word Guard.Wall) (left_same k m one.first (guard_word Guard.Wall)) is tt tt refl
    (fits_at g (core_in m tasks) t (Task.At job (OfficeAt.WallLeft one)) is good) good
walled k g m tasks t job one false is good =
    edge k g m tasks t job (OfficeAt.WallLeft one) (OfficeAt.FirstSize one) (Word.Left one.first)
    (guard_word Guard.Wall) (left_same k m one.first (guard_word Guard.Wall)) is tt tt refl
    (fits_at g (core_in m tasks) t (Task.At job (OfficeAt.WallLeft one)) is good) good

plain-as : (k : Key) (g : Shadow) (m : Mem) (tasks : ℕ → Task) (t : ℕ) (job : OfficeJob) (at : OfficeAt)
    → tasks t ≡ Task.At job at → IsPlain at → OfficeGood g (core_in m tasks)
    → OfficeGood g (core_in (after k m (office_course (call_of t job) at))
    (put tasks t (task_after job at (office_learn (call_of t job) at
    (Seen.Word (found m (office_course (call_of t job) at)))))))
plain-as k g m tasks t job OfficeAt.Lock is plain good = absurd plain
plain-as k g m tasks t job (OfficeAt.Region slot given) is plain good = looked k g m tasks t job slot given is good
plain-as k g m tasks t job (OfficeAt.Take given) is plain good = absurd plain
plain-as k g m tasks t job (OfficeAt.Base one) is plain good = absurd plain
plain-as k g m tasks t job (OfficeAt.Enter one) is plain good = absurd plain
plain-as k g m tasks t job (OfficeAt.WallSize one) is plain good =
    edge k g m tasks t job (OfficeAt.WallSize one) (OfficeAt.WallLeft one) (Word.Size (wall_of one))
    (guard_word Guard.Wall) (size_same k m (wall_of one) (guard_word Guard.Wall)) is tt tt refl
    (fits_at g (core_in m tasks) t (Task.At job (OfficeAt.WallSize one)) is good) good
plain-as k g m tasks t job (OfficeAt.WallLeft one) is plain good =
    walled k g m tasks t job one (one.granules == 0) is good
plain-as k g m tasks t job (OfficeAt.FirstSize one) is plain good =
    edge k g m tasks t job (OfficeAt.FirstSize one) (OfficeAt.LastLeft one) (Word.Size one.first)
    (guard_word Guard.Used) (size_same k m one.first (guard_word Guard.Used)) is tt tt refl
    (fits_at g (core_in m tasks) t (Task.At job (OfficeAt.FirstSize one)) is good) good
plain-as k g m tasks t job (OfficeAt.LastLeft one) is plain good =
    edge k g m tasks t job (OfficeAt.LastLeft one) (OfficeAt.Back (OfficeEnd.Obtained one)) (Word.Left (wall_of one))
    (guard_word Guard.Used) (left_same k m (wall_of one) (guard_word Guard.Used)) is tt tt refl
    (fits_at g (core_in m tasks) t (Task.At job (OfficeAt.LastLeft one)) is good) good
plain-as k g m tasks t job (OfficeAt.Remove given) is plain good = absurd plain
plain-as k g m tasks t job (OfficeAt.Back end) is plain good =
    goes_on g (core_in m tasks) t (Task.At job (OfficeAt.Unlock end)) good (subst Holds (sym is) tt) tt (ap coming is)
    (fits_at g (core_in m tasks) t (Task.At job (OfficeAt.Back end)) is good)
plain-as k g m tasks t job (OfficeAt.Unlock end) is plain good = absurd plain

-- F9: a region comes
swapped : (a b : RegionRec) → AreApart a b → AreApart b a
swapped a b (inl low) = inr low
swapped a b (inr high) = inl high

comes-as : (g : Shadow) (s : Core) (t granules : ℕ) (given : Option ℕ) (one : RegionRec)
    → s.tasks t ≡ Task.At (OfficeJob.Obtain granules) (OfficeAt.Take given) → IsFresh g one → OfficeGood g s
    → OfficeGood (shadow_came one g)
    (record s { tasks = put s.tasks t (Task.At (OfficeJob.Obtain granules) (OfficeAt.Base one)) })
comes-as g s t granules given one is fresh good = record {
  lock_fits = lock_stays s.lock s.tasks t task good.lock_fits mine tt;
  words_fit = good.words_fit;
  records_fit = record {
    known = λ n a live. equal_or n slot
        (λ same. absurd (let q : None ≡ Some a = sym fresh.slot ∙ ap g.out (sym same)
        ∙ good.records_fit.known n a live in
        cc))
        (λ ne. put-other g.out slot (Some one) n ne ∙ good.records_fit.known n a live);
    entered = λ n a. each (λ n q. q ≡ Some a → IsEntered (shadow_came one g) (put s.tasks t task) n a) g.out slot
        (Some one) (λ n ne z. old n a (good.records_fit.entered n a z))
        (λ z. inr (t, ap coming (put-same s.tasks t task) ∙ z)) n;
  };
  out_fits = record {
    each = λ n a. each (λ n q. q ≡ Some a → RegionFits (one.number + 1) n a) g.out slot (Some one)
        (λ n _ z. let fits = good.out_fits.each n a z in record {
          slot = fits.slot;
          number = let low = fits.number in let from = fresh.number in omega arith;
          fits = fits.fits;
        })
        (λ z. let same : one ≡ a = cc in subst (RegionFits (one.number + 1) slot) same
        (record { slot = refl; number = omega arith; fits = fresh.fits })) n;
    apart = λ n o a b ne. each (λ n q. n ≢ o → q ≡ Some a → put g.out slot (Some one) o ≡ Some b → AreApart a b)
        g.out slot (Some one)
        (λ n far ne z. each (λ o q. n ≢ o → q ≡ Some b → AreApart a b) g.out slot (Some one)
        (λ o _ ne w. good.out_fits.apart n o a b ne z w)
        (λ _ w. let same : one ≡ b = cc in subst (AreApart a) same (fresh.apart n a z)) o ne)
        (λ ne z. each (λ o q. slot ≢ o → q ≡ Some b → AreApart a b) g.out slot (Some one)
        (λ o _ _ w. let same : one ≡ a = cc in subst (λ x. AreApart x b) same (swapped b one (fresh.apart o b w)))
        (λ ne _. absurd (ne refl)) o ne) n ne;
  };
  tasks_fit = tasks_stay (shadow_came one g) (record s { tasks = put s.tasks t task }) s.lock s.tasks t task
      good.lock_fits mine (record { out = put-same g.out slot (Some one); none = no_live (g.live slot) refl });
}
  where
    slot : ℕ
    slot = slot_of one.number

    task : Task
    task = Task.At (OfficeJob.Obtain granules) (OfficeAt.Base one)

    mine : Holds (s.tasks t)
    mine = subst Holds (sym is) tt

    no_live : (q : Option RegionRec) → g.live (slot_of one.number) ≡ q → q ≡ None
    no_live None at = refl
    no_live (Some a) at = absurd (let q : None ≡ Some a = sym fresh.slot
        ∙ good.records_fit.known (slot_of one.number) a at in cc)

    old : (n : ℕ) (a : RegionRec) → IsEntered g s.tasks n a
        → IsEntered (shadow_came one g) (put s.tasks t (Task.At (OfficeJob.Obtain granules) (OfficeAt.Base one))) n a
    old n a (inl live) = inl live
    old n a (inr (o, from)) = inr (
      o,
      ap coming (put-other s.tasks t
          (Task.At (OfficeJob.Obtain granules) (OfficeAt.Base one)) o
          (λ same. let q : None ≡ Some a = sym (ap coming is) ∙ ap (λ x. coming (s.tasks x)) (sym same) ∙ from in
          absurd (cc))) ∙ from,
    )

-- F3: the base, and the region's word
slot_low : (number : ℕ) → slot_of number < most_regions
slot_low number = omega arith

based : (k : Key) (g : Shadow) (m : Mem) (tasks : ℕ → Task) (t : ℕ) (job : OfficeJob) (one : RegionRec)
    → tasks t ≡ Task.At job (OfficeAt.Base one) → OfficeGood g (core_in m tasks)
    → OfficeGood g (core_in (stored k m (Word.Base (slot_of one.number)) one.region.base)
    (put tasks t (Task.At job (OfficeAt.Enter one))))
based k g m tasks t job one is good =
    let s = core_in m tasks in
    let slot = slot_of one.number in
    let fits = fits_at g s t (Task.At job (OfficeAt.Base one)) is good in
    let task = Task.At job (OfficeAt.Enter one) in
    let mine = subst Holds (sym is) tt in
    to_stored (λ x. OfficeGood g (core_in x (put tasks t task))) k m (Word.Base slot) one.region.base
    (slot_low one.number)
    (record {
      lock_fits = lock_stays s.lock tasks t task good.lock_fits mine tt;
      words_fit = each (λ n q. WordFits (g.live n) (s.words n) q) (m bases) slot one.region.base
          (λ n _. good.words_fit n)
          (subst (λ q. WordFits q (s.words slot) one.region.base) (sym fits.none)
          (subst (λ q. WordFits q (s.words slot) (s.bases slot)) fits.none (good.words_fit slot)));
      records_fit = record {
        known = good.records_fit.known;
        entered = λ n a z. moves n a (good.records_fit.entered n a z);
      };
      out_fits = good.out_fits;
      tasks_fit = tasks_stay g (core_in (write m bases slot one.region.base) (put tasks t task)) s.lock tasks t task
          good.lock_fits mine (
            record { out = fits.out; none = fits.none },
            put-same (m bases) slot one.region.base,
          );
    })
  where
    moves : (n : ℕ) (a : RegionRec) → IsEntered g tasks n a
        → IsEntered g (put tasks t (Task.At job (OfficeAt.Enter one))) n a
    moves n a (inl live) = inl live
    moves n a (inr (o, from)) = equal_or o t
        (λ same. inr (
          t,
          ap coming (put-same tasks t (Task.At job (OfficeAt.Enter one)))
              ∙ sym (ap coming is) ∙ ap (λ x. coming (tasks x)) (sym same) ∙ from,
        ))
        (λ ne. inr (o, ap coming (put-other tasks t (Task.At job (OfficeAt.Enter one)) o ne) ∙ from))

entered-as : (k : Key) (g : Shadow) (m : Mem) (tasks : ℕ → Task) (t : ℕ) (job : OfficeJob) (one : RegionRec)
    → tasks t ≡ Task.At job (OfficeAt.Enter one) → OfficeGood g (core_in m tasks)
    → OfficeGood (shadow_entered one g)
    (core_in (stored k m (Word.Region (slot_of one.number)) (region_word (region_word_of one)))
    (put tasks t (Task.At job (OfficeAt.WallSize one))))
entered-as k g m tasks t job one is good =
    let s = core_in m tasks in
    let slot = slot_of one.number in
    let fits = fits_at g s t (Task.At job (OfficeAt.Enter one)) is good in
    let task = Task.At job (OfficeAt.WallSize one) in
    let mine = subst Holds (sym is) tt in
    let v = region_word (region_word_of one) in
    let told = regions_read_back (region_word_of one) (good.out_fits.each slot one fits.0.out).fits in
    to_stored (λ x. OfficeGood (shadow_entered one g) (core_in x (put tasks t task))) k m (Word.Region slot) v
    (slot_low one.number)
    (record {
      lock_fits = lock_stays s.lock tasks t task good.lock_fits mine tt;
      words_fit = both (λ n q w. WordFits q (region_of w) (m bases n)) g.live (m regions) slot (Some one) v
          (λ n _. good.words_fit n) (told, fits.1);
      records_fit = record {
        known = λ n a. each (λ n q. q ≡ Some a → g.out n ≡ Some a) g.live slot (Some one)
            (λ n _ z. good.records_fit.known n a z) (λ z. fits.0.out ∙ z) n;
        entered = λ n a z. moves n a z (good.records_fit.entered n a z);
      };
      out_fits = good.out_fits;
      tasks_fit = tasks_stay (shadow_entered one g) (core_in (write m regions slot v) (put tasks t task)) s.lock tasks t
          task good.lock_fits mine (put-same g.live slot (Some one));
    })
  where
    moves : (n : ℕ) (a : RegionRec) → g.out n ≡ Some a → IsEntered g tasks n a
        → IsEntered (shadow_entered one g) (put tasks t (Task.At job (OfficeAt.WallSize one))) n a
    moves n a z (inl live) = equal_or n (slot_of one.number)
        (λ same. inl (let fits = fits_at g (core_in m tasks) t (Task.At job (OfficeAt.Enter one)) is good in
        let q : None ≡ Some a = sym fits.0.none ∙ ap g.live (sym same) ∙ live in absurd (cc)))
        (λ ne. inl (put-other g.live (slot_of one.number) (Some one) n ne ∙ live))
    moves n a z (inr (o, from)) = equal_or o t
        (λ same. let q : Some one ≡ Some a = sym (ap coming is) ∙ ap (λ x. coming (tasks x)) (sym same) ∙ from in
        let w : one ≡ a = cc in
        let at : slot_of a.number ≡ n = (good.out_fits.each n a z).slot in
        inl (ap (put g.live (slot_of one.number) (Some one)) (sym at ∙ ap (λ (x : RegionRec). slot_of x.number) (sym w))
        ∙ put-same g.live (slot_of one.number) (Some one) ∙ ap Some w))
        (λ ne. inr (o, ap coming (put-other tasks t (Task.At job (OfficeAt.WallSize one)) o ne) ∙ from))

-- F4
zero_word : (region_of 0).live ≡ false
unfolding region_of
zero_word = refl

removed-as : (k : Key) (g : Shadow) (m : Mem) (tasks : ℕ → Task) (t : ℕ) (job : OfficeJob) (given : Option ℕ)
    → tasks t ≡ Task.At job (OfficeAt.Remove given) → OfficeGood g (core_in m tasks)
    → OfficeGood (shadow_removed given g) (core_in (after k m (office_course (call_of t job) (OfficeAt.Remove given)))
    (put tasks t (Task.At job (OfficeAt.Back OfficeEnd.Given))))
removed-as k g m tasks t job None is good =
    to_void (λ x. OfficeGood g (core_in x (put tasks t (Task.At job (OfficeAt.Back OfficeEnd.Given))))) k m
    (Word.Region most_regions) 0 (omega arith)
    (goes_on g (core_in m tasks) t (Task.At job (OfficeAt.Back OfficeEnd.Given)) good (subst Holds (sym is) tt) tt
    (ap coming is) tt)
removed-as k g m tasks t job (Some slot) is good =
    let s = core_in m tasks in
    let fits = fits_at g s t (Task.At job (OfficeAt.Remove (Some slot))) is good in
    let task = Task.At job (OfficeAt.Back OfficeEnd.Given) in
    let mine = subst Holds (sym is) tt in
    let h = shadow_removed (Some slot) g in
    to_stored (λ x. OfficeGood h (core_in x (put tasks t task))) k m (Word.Region slot) 0 (fits.some slot refl).0
    (record {
      lock_fits = lock_stays s.lock tasks t task good.lock_fits mine tt;
      words_fit = both (λ n q w. WordFits q (region_of w) (m bases n)) g.live (m regions) slot None 0
          (λ n _. good.words_fit n) zero_word;
      records_fit = record {
        known = λ n a. both (λ n q w. q ≡ Some a → w ≡ Some a) g.live g.out slot None None
            (λ n _ z. good.records_fit.known n a z) (λ z. z) n;
        entered = λ n a. each (λ n q. q ≡ Some a → IsEntered h (put tasks t task) n a) g.out slot None
            (λ n ne z. moves n a ne (good.records_fit.entered n a z)) (λ z. absurd (cc)) n;
      };
      out_fits = record {
        each = λ n a. each (λ n q. q ≡ Some a → RegionFits g.counter n a) g.out slot None
            (λ n _ z. good.out_fits.each n a z) (λ z. absurd (cc)) n;
        apart = λ n o a b ne z w. good.out_fits.apart n o a b ne
            (each (λ n q. q ≡ Some a → g.out n ≡ Some a) g.out slot None (λ n _ z. z) (λ z. absurd (cc)) n z)
            (each (λ n q. q ≡ Some b → g.out n ≡ Some b) g.out slot None (λ n _ z. z) (λ z. absurd (cc)) o w);
      };
      tasks_fit = tasks_stay h (core_in (write m regions slot 0) (put tasks t task)) s.lock tasks t task good.lock_fits
          mine tt;
    })
  where
    moves : (n : ℕ) (a : RegionRec) → n ≢ slot → IsEntered g tasks n a
        → IsEntered (shadow_removed (Some slot) g) (put tasks t (Task.At job (OfficeAt.Back OfficeEnd.Given))) n a
    moves n a ne (inl live) = inl (put-other g.live slot None n ne ∙ live)
    moves n a ne (inr (o, from)) = inr (
      o,
      ap coming (put-other tasks t (Task.At job (OfficeAt.Back OfficeEnd.Given)) o
          (λ same. let q : None ≡ Some a = sym (ap coming is) ∙ ap (λ x. coming (tasks x)) (sym same) ∙ from in
          absurd (cc))) ∙ from,
    )

-- F2
unlocked : (k : Key) (g : Shadow) (m : Mem) (tasks : ℕ → Task) (t : ℕ) (job : OfficeJob) (end : OfficeEnd)
    → tasks t ≡ Task.At job (OfficeAt.Unlock end) → OfficeGood g (core_in m tasks)
    → OfficeGood g (core_in (stored k m Word.OfficeLock 0) (put tasks t Task.Away))
unlocked k g m tasks t job end is good =
    let s = core_in m tasks in
    let mine = subst Holds (sym is) tt in
    to_stored (λ x. OfficeGood g (core_in x (put tasks t Task.Away))) k m Word.OfficeLock 0 (omega arith)
    (record {
      lock_fits = record {
        held = each (λ o q. Holds q → holder_of 0 ≡ Some o) tasks t Task.Away
            (λ o ne z. absurd (ne (one_holder s.lock tasks t o good.lock_fits mine z))) (λ z. absurd z);
        named = λ o z. absurd (let q : None ≡ Some o = sym free_reads ∙ z in cc);
      };
      words_fit = good.words_fit;
      records_fit = entered_stay g tasks t Task.Away (ap coming is) good.records_fit;
      out_fits = good.out_fits;
      tasks_fit = tasks_stay g (core_in m (put tasks t Task.Away)) s.lock tasks t Task.Away good.lock_fits mine tt;
    })

pub steps_keep_office : StepsKeepOffice
steps_keep_office k g m tasks h m' tasks' good (OfficeStep.begins t job is) =
    away_keeps g (core_in m tasks) t (Task.At job OfficeAt.Lock) good (λ z. subst Holds is z) (λ z. z) (ap coming is)
steps_keep_office k g m tasks h m' tasks' good (OfficeStep.locks t job few is) = locks-as k g m tasks t job few is good
steps_keep_office k g m tasks h m' tasks' good (OfficeStep.plain t job at is plain) =
    plain-as k g m tasks t job at is plain good
steps_keep_office k g m tasks h m' tasks' good (OfficeStep.comes t granules given one is fresh) =
    comes-as g (core_in m tasks) t granules given one is fresh good
steps_keep_office k g m tasks h m' tasks' good (OfficeStep.refused t granules given error is) =
    goes_on g (core_in m tasks) t (Task.At (OfficeJob.Obtain granules) (OfficeAt.Back (OfficeEnd.Refused error))) good
    (subst Holds (sym is) tt) tt (ap coming is) tt
steps_keep_office k g m tasks h m' tasks' good (OfficeStep.gives_back t first given is) =
    goes_on g (core_in m tasks) t (Task.At (OfficeJob.Give first) (OfficeAt.Remove given)) good
    (subst Holds (sym is) tt) tt (ap coming is)
    (fits_at g (core_in m tasks) t (Task.At (OfficeJob.Give first) (OfficeAt.Take given)) is good)
steps_keep_office k g m tasks h m' tasks' good (OfficeStep.bases' t job one is) = based k g m tasks t job one is good
steps_keep_office k g m tasks h m' tasks' good (OfficeStep.enters t job one is) = entered-as k g m tasks t job one is
    good
steps_keep_office k g m tasks h m' tasks' good (OfficeStep.removes t job given is) =
    removed-as k g m tasks t job given is good
steps_keep_office k g m tasks h m' tasks' good (OfficeStep.unlocks t job end is) = unlocked k g m tasks t job end is
    good
steps_keep_office k g m tasks h m' tasks' good (OfficeStep.others action other) =
    same_keeps g m (after k m action) tasks (same_after k m action other) good

pub runs_keep_office : RunsKeepOffice
runs_keep_office k g m tasks h m' tasks' good starts = good
runs_keep_office k g m tasks h m' tasks' good (steps {g1} {m1} {t1} run step) =
    steps_keep_office k g1 m1 t1 h m' tasks' (runs_keep_office k g m tasks g1 m1 t1 good run) step
