-- What holds of the office's records, wherever the office is, and what a seat's turns make of that.
use Rattle.std.proofs.Common.{◌≡◌, inl, inr, ℕ, ◌<◌, Bool, true, false, cond, eqb, List, Option, Some, None}
use Rattle.std.proofs.Common.{refl, sym, ap, subst, ◌∙◌, arith}
use Rattle.std.specs.Prelude.{◌-◌, nat_lt, Result, Ok, Err}
use Rattle.std.proofs.lemmas.Bool.{eqb-true}
use Rattle.pool_types.specs.Limits.{most_regions}
use Rattle.pool_types.specs.declared.policy.RegionRec.{RegionRec}
use Rattle.pool_types.specs.declared.values.Region.{Region}
use Rattle.regions.specs.Obtaining.{starts_at}
use Rattle.regions.specs.Offices.{Desk}
use Rattle.regions.specs.declared.errors.ObtainError.{ObtainError}
use Rattle.pool_words.specs.declared.words.Key.{Key}
use Rattle.pool_words.specs.declared.words.Word.{Word}
use Rattle.pool_words.specs.declared.actions.Action.TheVariants.{TakeOffice, GiveOffice}
use Rattle.pool_words.specs.declared.actions.OfficeJob.{OfficeJob}
use Rattle.pool_words.specs.declared.actions.Seen.{Seen}
use Rattle.pool_words.specs.Words.{office_locks}
use Rattle.region_steps.specs.declared.office.OfficeAt.{OfficeAt}
use Rattle.region_steps.specs.declared.office.OfficeEnd.{OfficeEnd}
use Rattle.region_steps.specs.declared.office.OfficeNext.{OfficeNext}
use Rattle.step_depot.specs.Steps.{asked_granules}
use Rattle.word_codes.specs.Locks.{holder_of, lock_word}
use Rattle.word_laws.specs.Memory.{Mem, put, stored, after, found}
use Rattle.word_laws.proofs.CallerLemmas.{put-same, each, both, stored-valid}
use Rattle.office_laws.specs.Regions.{Task, Shadow, core_in, Holds, OfficeGood}
use Rattle.office_laws.specs.Steps.{shadow_came, shadow_removed, OfficeStep, OfficeRun}
use Rattle.office_laws.specs.Steps.OfficeRun.{steps}
use Rattle.office_laws.proofs.CallerLemmas.{runs_keep_office, one_holder}
use Rattle.office_laws.proofs.Words.{free_reads}
use Rattle.step_local.specs.declared.frames.At.{At}
use Rattle.step_local.specs.declared.frames.Local.{Local}
use Rattle.step_local.specs.Backend.{office_job, office_as, office_left}
use Rattle.step_local.specs.Course.{course_at, course}
use Rattle.step_local.specs.Getting.{begun, reset_begun}
use Rattle.step_local.specs.Learn.{learn_at, learn}
use Rattle.step_runs.specs.Callbacks.{office_of}
use Rattle.step_runs.specs.Entries.{seen_by, desk_after}
use Rattle.step_runs.specs.Places.{has_word, stays, takes, move_of, given_by, passed_at, passed_of}
use Rattle.step_runs.specs.Runs.{Silent, Passes, home_after, seen_answer}
use Rattle.step_runs.specs.Runs.Silent.{rests, begins, resets, answers, obtains, takes_out, puts_back}
use Rattle.step_runs.proofs.Backend.{carry-office_left}
use Rattle.step_runs.proofs.CallerLemmas.{Has, has_none, has_some, lock_stays}
use Rattle.step_runs.proofs.Elsewhere.{else_at}
use Rattle.step_runs.proofs.Onward.{carry_learn}
use Rattle.step_laws.specs.Desks.{DeskFits, IsGone}
use Rattle.step_laws.specs.Tasks.{task_at, task_of, IsOut, shadow_by}
use Rattle.step_laws.proofs.Desks.{comes_fresh, comes_fits, refused_fits, passes_fits}
use Rattle.step_laws.proofs.Gone.{removed_gone}
use Rattle.step_laws.proofs.Turns.{put_twice, put_back, out_of, job_kept, IsOutOrSame, begun_out, reset_begun_out}
use Rattle.step_laws.proofs.Turns.{answered_out, taking, putting, out_runs, word_runs}

-- fewer regions are out, or as many
pub record IsLess (g h : Shadow) : Type 0 where
  pub counter : h.counter ≡ g.counter
  pub out : (s : ℕ) (one : RegionRec) → h.out s ≡ Some one → g.out s ≡ Some one

less_same : (g : Shadow) → IsLess g g
less_same g = record { counter = refl; out = λ s one is. is }

less_removed : (g : Shadow) (given : Option ℕ) → IsLess g (shadow_removed given g)
less_removed g None = less_same g
less_removed g (Some slot) = record {
  counter = refl;
  out = λ s one. each (λ s q. q ≡ Some one → g.out s ≡ Some one) g.out slot None (λ s _ is. is) (λ is. absurd (cc)) s;
}

less_by : (g : Shadow) (at : At) → IsLess g (shadow_by at g)
less_by g (At.Office job (OfficeAt.Enter one)) = record { counter = refl; out = λ s one is. is }
less_by g (At.Office job (OfficeAt.Remove given)) = less_removed g given
less_by g (At.Office job _) = less_same g
less_by g _ = less_same g

out_free : (task : Task) → IsOut task → Holds task → ⊥
out_free task (inl away) holds = subst Holds away holds
out_free task (inr (job, lock)) holds = subst Holds lock holds

out_back : (task : Task) (job : OfficeJob) (end : OfficeEnd) → IsOut task → task ≡ Task.At job (OfficeAt.Back end) → ⊥
out_back task job end out is = out_free task out (subst Holds (sym is) tt)

-- the region that is passed is that of a seat that has taken its word out
given_is : (job : OfficeJob) (first : ℕ) → given_by job ≡ Some first → job ≡ OfficeJob.Give first
given_is (OfficeJob.Obtain granules) first e = absurd (cc)
given_is (OfficeJob.Give given) first e = cc

passed_task : (l : Local) (at : At) (first : ℕ) → passed_at l at ≡ Some first
    → task_at l at ≡ Task.At (OfficeJob.Give first) (OfficeAt.Back OfficeEnd.Given)
passed_task l (At.Office job (OfficeAt.Back OfficeEnd.Given)) first e =
    ap (λ j. Task.At j (OfficeAt.Back OfficeEnd.Given)) (given_is (office_job l job) first e)
passed_task l (At.Office job (OfficeAt.Back _)) first e = absurd (cc)
passed_task l (At.Office job _) first e = absurd (cc)
passed_task l _ first e = absurd (cc)

lock_some : (seat : ℕ) → lock_word seat ≡ 0 → ⊥
unfolding lock_word
lock_some seat e = omega arith

module _ {R : Type 0} (out : R → List Region) (faults : R → ℕ) (got : R → ℕ → Option Region → R → Type 0)
    (passed : R → Region → Bool → R → Type 0) (k : Key) (g0 : Shadow) (m0 : Mem) (tasks0 : ℕ → Task)
    (good0 : OfficeGood g0 (core_in m0 tasks0)) where
  -- the office's steps since a state in which all held, and what holds of the office at home, in a seat's hand or
  -- slot, and amid a giving back
  pub record Fits (g : Shadow) (m : Mem) (tasks : ℕ → Task) (home : Option (Desk R)) (desks : ℕ → Option (Desk R))
      : Type 0 where
    pub run : OfficeRun k g0 m0 tasks0 g m tasks
    pub home_fits : m office_locks 0 ≡ 0 → Has (DeskFits out g) home
    pub seats_fit : (t : ℕ) → Holds (tasks t) → Has (DeskFits out g) (desks t)
    pub gone : (t first : ℕ) → tasks t ≡ Task.At (OfficeJob.Give first) (OfficeAt.Back OfficeEnd.Given)
        → IsGone g first

  pub good_of : (g : Shadow) (m : Mem) (tasks : ℕ → Task) (home : Option (Desk R)) (desks : ℕ → Option (Desk R))
      → Fits g m tasks home desks → OfficeGood g (core_in m tasks)
  good_of g m tasks home desks f =
      runs_keep_office k g0 m0 tasks0 g m tasks good0 f.run

  less_has : (g h : Shadow) (desk : Option (Desk R)) → IsLess g h → Has (DeskFits out g) desk
      → Has (DeskFits out h) desk
  less_has g h desk less has one is = let fits = has one is in record {
    sound = fits.sound;
    counter = let same = less.counter in let low = fits.counter in omega arith;
    records = λ may. let had = fits.records may in record {
      known = λ s a there. had.known s a (less.out s a there);
      filled = λ s a there. had.filled s a (less.out s a there);
    };
  }

  passes_has : (g : Shadow) (first : Option ℕ) (desk after : Option (Desk R))
      → Passes (office_of out faults got passed k) first desk after
      → ((x : ℕ) → first ≡ Some x → IsGone g x) → Has (DeskFits out g) desk → Has (DeskFits out g) after
  passes_has g None desk after same gone has = subst (Has (DeskFits out g)) (sym same) has
  passes_has g (Some first) (Some desk) after passes gone has =
      subst (Has (DeskFits out g)) (sym passes.1) (has_some (DeskFits out g) passes.0
      (passes_fits out faults passed g desk first (starts_at desk first) passes.0 (gone first refl) passes.2
      (has desk refl)))
  passes_has g (Some first) None after none gone has =
      subst (Has (DeskFits out g)) (sym none) (has_none (DeskFits out g))

  module _ (g : Shadow) (m : Mem) (tasks : ℕ → Task) (home : Option (Desk R)) (desks : ℕ → Option (Desk R))
      (f : Fits g m tasks home desks) where
    -- a turn that changes no region
    pub stay : (t : ℕ) (task : Task) (desk : Option (Desk R))
        → OfficeRun k g0 m0 tasks0 g m (put tasks t task)
        → (Holds task → Has (DeskFits out g) desk)
        → ((first : ℕ) → task ≡ Task.At (OfficeJob.Give first) (OfficeAt.Back OfficeEnd.Given) → IsGone g first)
        → Fits g m (put tasks t task) home (put desks t desk)
    stay t task desk run has gone = record {
      run = run;
      home_fits = f.home_fits;
      seats_fit = both (λ o q d. Holds q → Has (DeskFits out g) d) tasks desks t task desk (λ o _. f.seats_fit o) has;
      gone = λ o first. each
          (λ o q. q ≡ Task.At (OfficeJob.Give first) (OfficeAt.Back OfficeEnd.Given) → IsGone g first) tasks t task
          (λ o _. f.gone o first) (gone first) o;
    }

    -- a region comes
    pub come : (t granules : ℕ) (given : Option ℕ) (one : RegionRec) (old new : Desk R) (asked : ℕ)
        → tasks t ≡ Task.At (OfficeJob.Obtain granules) (OfficeAt.Take given) → desks t ≡ Some old
        → (office_of out faults got passed k).asks old asked (Ok one) new
        → Fits (shadow_came one g) m (put tasks t (Task.At (OfficeJob.Obtain granules) (OfficeAt.Base one))) home
        (put desks t (Some new))
    come t granules given one old new asked is has asks = record {
      run = steps f.run (OfficeStep.comes t granules given one is
          (comes_fresh out faults got g old (asked_granules k asked) one new had asks good.out_fits));
      home_fits = λ free. absurd (let q : None ≡ Some t = sym (ap holder_of free ∙ free_reads)
          ∙ good.lock_fits.held t mine in cc);
      seats_fit = both (λ o q d. Holds q → Has (DeskFits out (shadow_came one g)) d) tasks desks t
          (Task.At (OfficeJob.Obtain granules) (OfficeAt.Base one)) (Some new)
          (λ o ne holds. absurd (ne (alone o holds)))
          (λ _. has_some (DeskFits out (shadow_came one g)) new
          (comes_fits out faults got g old (asked_granules k asked) one new had asks));
      gone = λ o first. each
          (λ o q. q ≡ Task.At (OfficeJob.Give first) (OfficeAt.Back OfficeEnd.Given)
          → IsGone (shadow_came one g) first) tasks t
          (Task.At (OfficeJob.Obtain granules) (OfficeAt.Base one))
          (λ o ne back. absurd (ne (alone o (subst Holds (sym back) tt)))) (λ back. absurd (cc)) o;
    }
      where
        good : OfficeGood g (core_in m tasks)
        good = good_of g m tasks home desks f

        mine : Holds (tasks t)
        mine = subst Holds (sym is) tt

        had : DeskFits out g old
        had = f.seats_fit t mine old has

        alone : (o : ℕ) → Holds (tasks o) → o ≡ t
        alone o holds = one_holder (core_in m tasks).lock tasks t o good.lock_fits mine holds

  -- what silence leads to
  pub record Silenced (m : Mem) (tasks : ℕ → Task) (home : Option (Desk R)) (desks : ℕ → Option (Desk R)) (t : ℕ)
      (task : Task) (desk : Option (Desk R)) : Type 0 where
    pub shadow : Shadow
    pub fits : Fits shadow m (put tasks t task) home (put desks t desk)

  module _ (m : Mem) (tasks : ℕ → Task) (home : Option (Desk R)) (desks : ℕ → Option (Desk R)) (t : ℕ) where
    -- with one seat's task and desk, all fits
    abbrev pub FitsWith : Shadow → Task → Option (Desk R) → Type 0
    FitsWith g task desk = Fits g m (put tasks t task) home (put desks t desk)

    twice : (g : Shadow) (a task : Task) (d desk : Option (Desk R))
        → Fits g m (put (put tasks t a) t task) home (put (put desks t d) t desk) → FitsWith g task desk
    twice g a task d desk fits = subst (λ x. Fits g m (put tasks t task) home x) (put_twice desks t d desk)
        (subst (λ x. Fits g m x home (put (put desks t d) t desk)) (put_twice tasks t a task) fits)

    -- the next turn, after silence that led so far
    module _ (g : Shadow) (now : Local) (desk : Option (Desk R)) (s : FitsWith g (task_of now) desk) where
      here : (task : Task) → task_of now ≡ task → put tasks t (task_of now) t ≡ task
      here task is = put-same tasks t (task_of now) ∙ is

      mine : Holds (task_of now) → Has (DeskFits out g) desk
      mine holds = subst (Has (DeskFits out g)) (put-same desks t desk)
          (s.seats_fit t (subst Holds (sym (here (task_of now) refl)) holds))

      goes : (task : Task) → OfficeRun k g0 m0 tasks0 g m
          (put (put tasks t (task_of now)) t task) → (after : Option (Desk R))
          → (Holds task → Has (DeskFits out g) after)
          → ((first : ℕ) → task ≡ Task.At (OfficeJob.Give first) (OfficeAt.Back OfficeEnd.Given)
          → IsGone g first) → FitsWith g task after
      goes task run after has gone = twice g (task_of now) task desk after
          (stay g m (put tasks t (task_of now)) home (put desks t desk) s t task after run has gone)

      pub goes_out : (task : Task) → task_of now ≡ Task.Away → IsOut task → FitsWith g task desk
      goes_out task away is = goes task
          (out_runs k g0 m0 tasks0 g m (put tasks t (task_of now)) s.run t task
          (here Task.Away away) is)
          desk (λ holds. absurd (out_free task is holds))
          (λ first back. absurd (out_back task (OfficeJob.Give first) OfficeEnd.Given is back))

      pub begun_goes : (on : Local) → IsOutOrSame now on → FitsWith g (task_of on) desk
      begun_goes on (inl (away, is)) = goes_out (task_of on) away is
      begun_goes on (inr same) = subst (λ x. FitsWith g (task_of x) desk) (sym same) s

      pub back_goes : course now ≡ GiveOffice → FitsWith g (task_of (learn now Seen.Done).0) desk
      back_goes e =
          let p = putting now now.at e in
          subst (λ x. FitsWith g x desk) (sym p.leads)
          (goes (Task.At p.job (OfficeAt.Unlock p.end))
          (steps s.run (OfficeStep.plain t p.job (OfficeAt.Back p.end) (here _ p.before) tt)) desk
          (λ _. mine (subst Holds (sym p.before) tt)) (λ first back. absurd (cc)))

      pub taken_goes : (first : ℕ) → course now ≡ TakeOffice (OfficeJob.Give first)
          → FitsWith g (task_of (learn now Seen.Given).0) desk
      taken_goes first e =
          let p = taking now now.at (OfficeJob.Give first) e in
          subst (λ x. FitsWith g x desk) (sym (p.leads Seen.Given))
          (goes (Task.At (OfficeJob.Give first) (OfficeAt.Remove p.given))
          (steps s.run (OfficeStep.gives_back t first p.given (here _ p.before))) desk
          (λ _. mine (subst Holds (sym p.before) tt)) (λ first back. absurd (cc)))

    -- the office was asked
    module _ (g : Shadow) (now : Local) (old : Desk R) (s : FitsWith g (task_of now) (Some old)) (granules : ℕ)
        (new : Desk R) (e : course now ≡ TakeOffice (OfficeJob.Obtain granules)) where
      -- it fitted the regions that were out
      pub asked_fits : DeskFits out g old
      asked_fits =
          let p = taking now now.at (OfficeJob.Obtain granules) e in
          mine g now (Some old) s (subst Holds (sym p.before) tt) old refl

      pub comes_goes : (one : RegionRec) → (office_of out faults got passed k).asks old granules (Ok one) new
          → FitsWith (shadow_came one g) (task_of (learn now (Seen.Obtained one)).0) (Some new)
      comes_goes one asks =
          let p = taking now now.at (OfficeJob.Obtain granules) e in
          subst (λ x. FitsWith (shadow_came one g) x (Some new)) (sym (p.leads (Seen.Obtained one)))
          (twice (shadow_came one g) (task_of now) (Task.At (OfficeJob.Obtain granules) (OfficeAt.Base one))
          (Some old) (Some new)
          (come g m (put tasks t (task_of now)) home (put desks t (Some old)) s t granules p.given one old new
          granules (put-same tasks t (task_of now) ∙ p.before) (put-same desks t (Some old)) asks))

      pub refused_goes : (error : ObtainError)
          → (office_of out faults got passed k).asks old granules (Err error) new
          → FitsWith g (task_of (learn now (Seen.Refused error)).0) (Some new)
      refused_goes error asks =
          let p = taking now now.at (OfficeJob.Obtain granules) e in
          subst (λ x. FitsWith g x (Some new)) (sym (p.leads (Seen.Refused error)))
          (goes g now (Some old) s (Task.At (OfficeJob.Obtain granules) (OfficeAt.Back (OfficeEnd.Refused error)))
          (steps s.run (OfficeStep.refused t granules p.given error (put-same tasks t (task_of now) ∙ p.before)))
          (Some new)
          (λ _. has_some (DeskFits out g) new (refused_fits out faults got g old (asked_granules k granules)
          error new asks asked_fits)) (λ first back. absurd (cc)))

    pub asked_goes : (g : Shadow) (now : Local) (old : Desk R) → FitsWith g (task_of now) (Some old)
        → (granules : ℕ) (answer : Result RegionRec ObtainError) (new : Desk R)
        → course now ≡ TakeOffice (OfficeJob.Obtain granules)
        → (office_of out faults got passed k).asks old granules answer new
        → Silenced m tasks home desks t (task_of (learn now (seen_answer answer)).0) (Some new)
    asked_goes g now old s granules (Ok one) new e asks =
        record { shadow = shadow_came one g; fits = comes_goes g now old s granules new e one asks }
    asked_goes g now old s granules (Err error) new e asks =
        record { shadow = g; fits = refused_goes g now old s granules new e error asks }

    -- a state in which all fits, before any turn
    pub rests_fit : (g : Shadow) → Fits g m tasks home desks → (l : Local) (d after : Option (Desk R))
        → Passes (office_of out faults got passed k) (passed_of l) d after → tasks t ≡ task_of l → desks t ≡ d
        → FitsWith g (task_of l) after
    rests_fit g f l d after passes is has = stay g m tasks home desks f t (task_of l) after
        (subst (OfficeRun k g0 m0 tasks0 g m) (sym (put_back tasks t (task_of l) is)) f.run)
        (λ holds. passes_has g (passed_of l) d after passes
        (λ x e. f.gone t x (is ∙ passed_task l l.at x e))
        (subst (Has (DeskFits out g)) has (f.seats_fit t (subst Holds (sym is) holds))))
        (λ first back. f.gone t first (is ∙ back))

    -- silence after a state in which all fits
    pub silence_fits : (g : Shadow) → Fits g m tasks home desks → {l : Local} {d : Option (Desk R)} {now : Local}
        {after : Option (Desk R)} → Silent (office_of out faults got passed k) l d now after → tasks t ≡ task_of l
        → desks t ≡ d → Silenced m tasks home desks t (task_of now) after
    silence_fits g f {l} {d} (rests {after = after} passes) is has =
        record { shadow = g; fits = rests_fit g f l d after passes is has }
    silence_fits g f (begins {now = now} {desk = desk} silent request) is has =
        let s = silence_fits g f silent is has in record {
          shadow = s.shadow;
          fits = begun_goes s.shadow now desk s.fits (begun now request).0 (begun_out now request);
        }
    silence_fits g f (resets {now = now} {desk = desk} silent reset) is has =
        let s = silence_fits g f silent is has in record {
          shadow = s.shadow;
          fits = begun_goes s.shadow now desk s.fits (reset_begun now reset).0 (reset_begun_out now reset);
        }
    silence_fits g f (answers {now = now} {desk = desk} silent e) is has =
        let s = silence_fits g f silent is has in
        let leads = answered_out now e in record {
          shadow = s.shadow;
          fits = goes_out s.shadow now desk s.fits (task_of (learn now Seen.Done).0) leads.0 leads.1;
        }
    silence_fits g f (obtains {now = now} {desk = old} silent granules answer after e asks) is has =
        let s = silence_fits g f silent is has in
        asked_goes s.shadow now old s.fits granules answer after e asks
    silence_fits g f (takes_out {now = now} {desk = desk} silent first e) is has =
        let s = silence_fits g f silent is has in
        record { shadow = s.shadow; fits = taken_goes s.shadow now (Some desk) s.fits first e }
    silence_fits g f (puts_back {now = now} {desk = desk} silent e) is has =
        let s = silence_fits g f silent is has in
        record { shadow = s.shadow; fits = back_goes s.shadow now desk s.fits e }

  -- a step on a word
  module _ (g : Shadow) (m : Mem) (tasks : ℕ → Task) (home : Option (Desk R)) (desks : ℕ → Option (Desk R))
      (f : Fits g m tasks home desks) (l : Local) where
    abbrev step_task : At → Task
    step_task at = task_of (learn_at l at (seen_by (course_at l at) (found m (course_at l at)))).0

    at_office : (job : OfficeJob) (at : OfficeAt) → tasks l.seat ≡ Task.At job at → Holds (Task.At job at)
        → Has (DeskFits out g) (desks l.seat)
    at_office job at is holds = f.seats_fit l.seat (subst Holds (sym is) holds)

    home_step : (at : At) → tasks l.seat ≡ task_at l at → has_word (course_at l at) ≡ true
        → after k m (course_at l at) office_locks 0 ≡ 0
        → Has (DeskFits out g) (home_after (move_of at (found m (course_at l at))) home (desks l.seat))
    home_step At.Idle is word free = absurd (cc)
    home_step (At.Ready answer) is word free = absurd (cc)
    home_step (At.Office job OfficeAt.Lock) is word free = by (eqb (m office_locks 0) 0) free
      where
        by : (b : Bool) → (cond b (stored k m Word.OfficeLock (lock_word l.seat)) m) office_locks 0 ≡ 0
            → Has (DeskFits out g) (home_after (cond b takes stays) home (desks l.seat))
        by true e = absurd (lock_some l.seat
            (sym (ap (λ (n : Mem). n office_locks 0)
            (stored-valid k m Word.OfficeLock (lock_word l.seat) (omega arith))) ∙ e))
        by false e = f.home_fits e
    home_step (At.Office job (OfficeAt.Unlock end)) is word free =
        at_office (office_job l job) (OfficeAt.Unlock end) is tt
    home_step (At.Office job at) is word free =
        f.home_fits (sym (lock_stays k m (course_at l (At.Office job at)) refl) ∙ free)
    home_step at is word free = f.home_fits (sym (lock_stays k m (course_at l at) (else_at l at refl).0) ∙ free)

    desk_step : (at : At) → tasks l.seat ≡ task_at l at → has_word (course_at l at) ≡ true → Holds (step_task at)
        → Has (DeskFits out g) (desk_after (move_of at (found m (course_at l at))) home (desks l.seat))
    desk_step At.Idle is word holds = absurd (cc)
    desk_step (At.Ready answer) is word holds = absurd (cc)
    desk_step (At.Office job OfficeAt.Lock) is word holds = by (eqb (m office_locks 0) 0) refl holds
      where
        by : (b : Bool) → eqb (m office_locks 0) 0 ≡ b
            → Holds (task_of (office_as l job OfficeAt.Lock
            (cond b (OfficeNext.Goes (OfficeAt.Region 0 None)) OfficeNext.Waits)).0)
            → Has (DeskFits out g) (desk_after (cond b takes stays) home (desks l.seat))
        by true e z = f.home_fits (eqb-true (m office_locks 0) 0 e)
        by false e z = absurd z
    desk_step (At.Office job (OfficeAt.Unlock end)) is word holds = has_none (DeskFits out g)
    desk_step (At.Office job at) is word holds = at_office (office_job l job) at is tt
    desk_step at is word holds =
        let on = (learn_at l at (seen_by (course_at l at) (found m (course_at l at)))).0 in
        absurd (out_free (task_of on) (out_of on on.at
        (carry_learn l at (seen_by (course_at l at) (found m (course_at l at))) refl)) holds)

    not_back : (job : OfficeJob) (first : ℕ) (b : Bool) (x y : OfficeAt)
        → (x ≡ OfficeAt.Back OfficeEnd.Given → ⊥) → (y ≡ OfficeAt.Back OfficeEnd.Given → ⊥)
        → Task.At job (cond b x y) ≡ Task.At (OfficeJob.Give first) (OfficeAt.Back OfficeEnd.Given) → ⊥
    not_back job first true x y one other e = one (cc)
    not_back job first false x y one other e = other (cc)

    gone_step : (at : At) (first : ℕ) → tasks l.seat ≡ task_at l at → has_word (course_at l at) ≡ true
        → step_task at ≡ Task.At (OfficeJob.Give first) (OfficeAt.Back OfficeEnd.Given) → IsGone (shadow_by at g) first
    gone_step At.Idle first is word back = absurd (cc)
    gone_step (At.Ready answer) first is word back = absurd (cc)
    gone_step (At.Office job OfficeAt.Lock) first is word back = absurd (by (eqb (m office_locks 0) 0) back)
      where
        by : (b : Bool) → task_of (office_as l job OfficeAt.Lock
            (cond b (OfficeNext.Goes (OfficeAt.Region 0 None)) OfficeNext.Waits)).0
            ≡ Task.At (OfficeJob.Give first) (OfficeAt.Back OfficeEnd.Given) → ⊥
        by true e = cc
        by false e = cc
    gone_step (At.Office job (OfficeAt.Region slot given)) first is word back =
        absurd (not_back _ first (nat_lt slot (most_regions - 1)) _ _ (λ e. cc) (λ e. cc) back)
    gone_step (At.Office job (OfficeAt.WallLeft one)) first is word back =
        absurd (not_back _ first (eqb one.granules 0) _ _ (λ e. cc) (λ e. cc) back)
    gone_step (At.Office job (OfficeAt.Remove given)) first is word back =
        let asks : office_job (record l { at = At.Office job (OfficeAt.Back OfficeEnd.Given) }) job
        ≡ OfficeJob.Give first = cc in
        removed_gone g m tasks l.seat first (good_of g m tasks home desks f) given
        (is ∙ ap (λ j. Task.At j (OfficeAt.Remove given))
        (sym (job_kept l (At.Office job (OfficeAt.Back OfficeEnd.Given)) job) ∙ asks))
    gone_step (At.Office job (OfficeAt.Unlock end)) first is word back =
        let on = (office_left l job end).0 in
        absurd (out_back (task_of on) (OfficeJob.Give first) OfficeEnd.Given
        (out_of on on.at (carry-office_left l job end)) back)
    gone_step (At.Office job _) first is word back = absurd (cc)
    gone_step at first is word back =
        let on = (learn_at l at (seen_by (course_at l at) (found m (course_at l at)))).0 in
        absurd (out_back (task_of on) (OfficeJob.Give first) OfficeEnd.Given (out_of on on.at
        (carry_learn l at (seen_by (course_at l at) (found m (course_at l at))) refl)) back)

    gone_less : (h : Shadow) (first : ℕ) → IsLess g h → IsGone g first → IsGone h first
    gone_less h first less gone s one is = gone s one (less.out s one is)

    pub step_fits : (at : At) → tasks l.seat ≡ task_at l at → l.seat < 64 → has_word (course_at l at) ≡ true
        → Fits (shadow_by at g) (after k m (course_at l at)) (put tasks l.seat (step_task at))
        (home_after (move_of at (found m (course_at l at))) home (desks l.seat))
        (put desks l.seat (desk_after (move_of at (found m (course_at l at))) home (desks l.seat)))
    step_fits at is few word =
        let h = shadow_by at g in
        let less = less_by g at in
        let move = move_of at (found m (course_at l at)) in
        record {
          run = word_runs k g0 m0 tasks0 g m tasks f.run l at is few word;
          home_fits = λ free. less_has g h (home_after move home (desks l.seat)) less (home_step at is word free);
          seats_fit = both (λ o q d. Holds q → Has (DeskFits out h) d) tasks desks l.seat (step_task at)
              (desk_after move home (desks l.seat)) (λ o _ holds. less_has g h (desks o) less (f.seats_fit o holds))
              (λ holds. less_has g h (desk_after move home (desks l.seat)) less (desk_step at is word holds));
          gone = λ o first. each
              (λ o q. q ≡ Task.At (OfficeJob.Give first) (OfficeAt.Back OfficeEnd.Given) → IsGone h first) tasks l.seat
              (step_task at) (λ o _ back. gone_less h first less (f.gone o first back))
              (λ back. gone_step at first is word back) o;
        }
