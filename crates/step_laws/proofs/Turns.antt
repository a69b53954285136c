-- What a turn of a whole local is at the office.
use Rattle.std.proofs.Common.{◌≡◌, ◌⊎◌, inl, inr, ℕ, ◌<◌, Bool, true, false, cond, refl, sym, ap, subst, ◌∙◌}
use Rattle.std.specs.Prelude.{◌==◌, Option, None, Result, Ok, Err}
use Rattle.pool_types.specs.declared.values.InCall.{InCall}
use Rattle.pool_types.specs.declared.values.Request.{Request}
use Rattle.pool_words.specs.declared.words.Key.{Key}
use Rattle.pool_words.specs.declared.actions.Action.{Action}
use Rattle.pool_words.specs.declared.actions.Action.TheVariants.{TakeOffice, GiveOffice, Nothing}
use Rattle.pool_words.specs.declared.actions.OfficeJob.{OfficeJob}
use Rattle.pool_words.specs.declared.actions.Seen.{Seen}
use Rattle.pool_words.specs.Words.{office_locks, regions}
use Rattle.region_steps.specs.declared.office.OfficeAt.{OfficeAt}
use Rattle.region_steps.specs.declared.office.OfficeEnd.{OfficeEnd}
use Rattle.region_steps.specs.declared.office.OfficeNext.{OfficeNext}
use Rattle.region_steps.specs.Office.{office_looked, office_taken, office_walled, office_entered}
use Rattle.word_laws.specs.Memory.{Mem, put, after, found}
use Rattle.word_laws.proofs.CallerLemmas.{put-same, put-other, each, both}
use Rattle.office_laws.specs.Regions.{Task, Shadow}
use Rattle.office_laws.specs.Steps.{task_after, OfficeStep, OfficeRun}
use Rattle.office_laws.specs.Steps.OfficeRun.{steps}
use Rattle.step_local.specs.declared.frames.At.{At}
use Rattle.step_local.specs.declared.frames.Local.{Local}
use Rattle.step_local.specs.declared.frames.OfficeFor.{OfficeFor}
use Rattle.step_local.specs.declared.frames.Reset.{Reset}
use Rattle.step_local.specs.Answers.{gone}
use Rattle.step_local.specs.Backend.{office_job, office_as, office_left}
use Rattle.step_local.specs.Course.{course_at, course}
use Rattle.step_local.specs.Getting.{asked_for, begun, begun_as, is_idle, reset_begun, reset_begun_as}
use Rattle.step_local.specs.Learn.{learn_at, learn}
use Rattle.step_runs.specs.Entries.{seen_by}
use Rattle.step_runs.specs.Places.{has_word, away, carry_of}
use Rattle.step_runs.proofs.Backend.{carry-office_left}
use Rattle.step_runs.proofs.Begun.{carry_begun, carry_reset_begun}
use Rattle.step_runs.proofs.Elsewhere.{is_calling, else_at as word_at_all}
use Rattle.step_runs.proofs.Onward.{carry_learn, answers_at}
use Rattle.step_laws.specs.Tasks.{task_at, task_of, IsOut, shadow_at, shadow_by}
use Rattle.step_laws.proofs.Elsewhere.{else_at, other_action}

pub put_twice : {A : Type 0} (f : ℕ → A) (t : ℕ) (a b : A) → put (put f t a) t b ≡ put f t b
put_twice f t a b i j = each (λ y q. q ≡ put f t b y) (put f t a) t b
    (λ y ne. put-other f t a y ne ∙ sym (put-other f t b y ne)) (sym (put-same f t b)) j i

pub put_back : {A : Type 0} (f : ℕ → A) (t : ℕ) (a : A) → f t ≡ a → put f t a ≡ f
put_back f t a e i j = each (λ y q. q ≡ f y) f t a (λ y ne. refl) (sym e) j i

pub put_mapped : {A B : Type 0} (of : A → B) (f : ℕ → A) (t : ℕ) (a : A)
    → ◌≡◌ {A = ℕ → B} (λ y. of (put f t a y)) (put (λ y. of (f y)) t (of a))
put_mapped of f t a i j = both (λ y p q. of p ≡ q) f (λ y. of (f y)) t a (of a) (λ y ne. refl) refl j i

-- where the office is not taken, a seat has nothing to do there, or is to win its lock
pub out_of : (l : Local) (at : At) → carry_of at ≡ away → IsOut (task_at l at)
out_of l (At.Office job OfficeAt.Lock) e = inr (office_job l job, refl)
out_of l (At.Office job _) e = absurd (cc)
out_of l _ e = inl refl

-- what is asked of the office is asked until it is left
pub job_kept : (l : Local) (at : At) (job : OfficeFor) → office_job (record l { at = at }) job ≡ office_job l job
job_kept l at OfficeFor.Ask = refl
job_kept l at (OfficeFor.Put first) = refl
job_kept l at (OfficeFor.Drain first rest) = refl

lock_goes : (l : Local) (job : OfficeFor) (b : Bool)
    → task_of (office_as l job OfficeAt.Lock (cond b (OfficeNext.Goes (OfficeAt.Region 0 None)) OfficeNext.Waits)).0
    ≡ task_after (office_job l job) OfficeAt.Lock
    (cond b (OfficeNext.Goes (OfficeAt.Region 0 None)) OfficeNext.Waits)
lock_goes l job true = ap (λ j. Task.At j (OfficeAt.Region 0 None))
    (job_kept l (At.Office job (OfficeAt.Region 0 None)) job)
lock_goes l job false = ap (λ j. Task.At j OfficeAt.Lock) (job_kept l (At.Office job OfficeAt.Lock) job)

idle_away : (l : Local) (at : At) → is_idle at ≡ true → (task_at l at ≡ Task.Away) × (carry_of at ≡ away)
idle_away l At.Idle e = (refl, refl)
idle_away l _ e = absurd (cc)

nothing_away : (l : Local) (at : At) → course_at l at ≡ Nothing → task_at l at ≡ Task.Away
nothing_away l (At.Office job OfficeAt.Lock) e = absurd (cc)
nothing_away l (At.Office job _) e = absurd (cc)
nothing_away l _ e = refl

-- a position that makes a step on a word makes none of another kind
no_word : (l : Local) (at : At) (action : Action) → is_calling at ≡ true → has_word action ≡ false
    → course_at l at ≡ action → ⊥
no_word l at action calling none e =
    let word = (word_at_all l at calling).1 in
    let same = ap has_word e in
    cc

-- a call that begins leads out of the office, or changes nothing
abbrev pub IsOutOrSame : Local → Local → Type 0
IsOutOrSame now on = ((task_of now ≡ Task.Away) × IsOut (task_of on)) ⊎ (on ≡ now)

begun_by : (now on : Local) (b : Bool) → is_idle now.at ≡ b → (b ≡ false → on ≡ now)
    → carry_of on.at ≡ carry_of now.at → IsOutOrSame now on
begun_by now on true idle other carry =
    let places = idle_away now now.at idle in inl (places.0, out_of on on.at (carry ∙ places.1))
begun_by now on false idle other carry = inr (other refl)

pub begun_out : (now : Local) (request : Request) → IsOutOrSame now (begun now request).0
begun_out now request = begun_by now (begun now request).0 (is_idle now.at) refl
    (λ e. ap (λ (b : Bool). (cond {A = Local × Result Unit InCall} b
    (begun_as (asked_for now request) request, Ok tt) (now, Err (record { seat = now.seat }))).0) e)
    (carry_begun now request)

pub reset_begun_out : (now : Local) (reset : Reset) → IsOutOrSame now (reset_begun now reset).0
reset_begun_out now reset = begun_by now (reset_begun now reset).0 (is_idle now.at) refl
    (λ e. ap (λ (b : Bool). (cond {A = Local × Result Unit InCall} b
    (reset_begun_as now reset, Ok tt) (now, Err (record { seat = now.seat }))).0) e)
    (carry_reset_begun now reset)

pub answered_out : (now : Local) → course now ≡ Nothing
    → (task_of now ≡ Task.Away) × IsOut (task_of (learn now Seen.Done).0)
answered_out now e =
    let on = (learn now Seen.Done).0 in
    (nothing_away now now.at e, out_of on on.at (answers_at now now.at refl e).1)

-- where the next turn asks the office, and what it leads to
pub record IsTaking (l : Local) (at : At) (job : OfficeJob) : Type 0 where
  pub given : Option ℕ
  pub before : task_at l at ≡ Task.At job (OfficeAt.Take given)
  pub leads : (s : Seen) → task_of (learn_at l at s).0 ≡ task_after job (OfficeAt.Take given) (office_taken given s)

taken_next : (l : Local) (job : OfficeFor) (given : Option ℕ) (s : Seen)
    → task_of (office_as l job (OfficeAt.Take given) (office_taken given s)).0
    ≡ task_after (office_job l job) (OfficeAt.Take given) (office_taken given s)
taken_next l job given (Seen.Word value) =
    ap (λ j. Task.At j (OfficeAt.Take given)) (job_kept l (At.Office job (OfficeAt.Take given)) job)
taken_next l job given Seen.Done =
    ap (λ j. Task.At j (OfficeAt.Take given)) (job_kept l (At.Office job (OfficeAt.Take given)) job)
taken_next l job given Seen.OfficeOut =
    ap (λ j. Task.At j (OfficeAt.Take given)) (job_kept l (At.Office job (OfficeAt.Take given)) job)
taken_next l job given (Seen.Obtained one) =
    ap (λ j. Task.At j (OfficeAt.Base one)) (job_kept l (At.Office job (OfficeAt.Base one)) job)
taken_next l job given (Seen.Refused error) =
    ap (λ j. Task.At j (OfficeAt.Back (OfficeEnd.Refused error)))
    (job_kept l (At.Office job (OfficeAt.Back (OfficeEnd.Refused error))) job)
taken_next l job given Seen.Given =
    ap (λ j. Task.At j (OfficeAt.Remove given)) (job_kept l (At.Office job (OfficeAt.Remove given)) job)

pub taking : (l : Local) (at : At) (job : OfficeJob) → course_at l at ≡ TakeOffice job → IsTaking l at job
taking l (At.Office job' (OfficeAt.Take given)) job e =
    let asks : office_job l job' ≡ job = cc in
    record {
      given = given;
      before = ap (λ j. Task.At j (OfficeAt.Take given)) asks;
      leads = λ s. taken_next l job' given s
          ∙ ap (λ j. task_after j (OfficeAt.Take given) (office_taken given s)) asks;
    }
taking l (At.Office job' _) job e = absurd (cc)
taking l At.Idle job e = absurd (cc)
taking l (At.Ready answer) job e = absurd (cc)
taking l at job e = absurd (no_word l at (TakeOffice job) refl refl e)

-- where the next turn puts the office back in its slot
pub record IsPutting (l : Local) (at : At) : Type 0 where
  pub job : OfficeJob
  pub end : OfficeEnd
  pub before : task_at l at ≡ Task.At job (OfficeAt.Back end)
  pub leads : task_of (learn_at l at Seen.Done).0 ≡ Task.At job (OfficeAt.Unlock end)

pub putting : (l : Local) (at : At) → course_at l at ≡ GiveOffice → IsPutting l at
putting l (At.Office job (OfficeAt.Back end)) e = record {
  job = office_job l job;
  end = end;
  before = refl;
  leads = ap (λ j. Task.At j (OfficeAt.Unlock end)) (job_kept l (At.Office job (OfficeAt.Unlock end)) job);
}
putting l (At.Office job _) e = absurd (cc)
putting l At.Idle e = absurd (cc)
putting l (At.Ready answer) e = absurd (cc)
putting l at e = absurd (no_word l at GiveOffice refl refl e)

module _ (k : Key) (g0 : Shadow) (m0 : Mem) (tasks0 : ℕ → Task) where
  abbrev pub Runs : Shadow → Mem → (ℕ → Task) → Type 0
  Runs g m tasks = OfficeRun k g0 m0 tasks0 g m tasks

  -- a seat that had nothing to do there is to win the lock, or has nothing to do there still
  pub out_runs : (g : Shadow) (m : Mem) (tasks : ℕ → Task) → Runs g m tasks → (t : ℕ) (task : Task)
      → tasks t ≡ Task.Away → IsOut task → Runs g m (put tasks t task)
  out_runs g m tasks run t task is (inl none) = subst (Runs g m) (sym (put_back tasks t task (is ∙ sym none))) run
  out_runs g m tasks run t task is (inr (job, e)) =
      subst (λ q. Runs g m (put tasks t q)) (sym e) (steps run (OfficeStep.begins t job is))

  module _ (g : Shadow) (m : Mem) (tasks : ℕ → Task) (run : Runs g m tasks) where
    -- a step on a word at the office
    goes : (h : Shadow) (m' : Mem) (l : Local) (job : OfficeFor) (next : OfficeAt)
        → Runs h m' (put tasks l.seat (Task.At (office_job l job) next))
        → Runs h m' (put tasks l.seat (task_of (gone l (At.Office job next)).0))
    goes h m' l job next now = subst (λ j. Runs h m' (put tasks l.seat (Task.At j next)))
        (sym (job_kept l (At.Office job next) job)) now

    office_runs : (l : Local) (job : OfficeFor) (at : OfficeAt) → tasks l.seat ≡ Task.At (office_job l job) at
        → l.seat < 64 → has_word (course_at l (At.Office job at)) ≡ true
        → Runs (shadow_at at g) (after k m (course_at l (At.Office job at)))
        (put tasks l.seat (task_of (learn_at l (At.Office job at)
        (seen_by (course_at l (At.Office job at)) (found m (course_at l (At.Office job at))))).0))
    office_runs l job OfficeAt.Lock is few word =
        subst (λ q. Runs g (after k m (course_at l (At.Office job OfficeAt.Lock))) (put tasks l.seat q))
        (sym (lock_goes l job (m office_locks 0 == 0)))
        (steps run (OfficeStep.locks l.seat (office_job l job) few is))
    office_runs l job (OfficeAt.Region slot given) is few word =
        goes g m l job (office_looked (office_job l job) slot given (m regions slot))
        (steps run (OfficeStep.plain l.seat (office_job l job) (OfficeAt.Region slot given) is tt))
    office_runs l job (OfficeAt.Take given) is few word = absurd (cc)
    office_runs l job (OfficeAt.Base one) is few word =
        goes g (after k m (course_at l (At.Office job (OfficeAt.Base one)))) l job (OfficeAt.Enter one)
        (steps run (OfficeStep.bases' l.seat (office_job l job) one is))
    office_runs l job (OfficeAt.Enter one) is few word =
        goes (shadow_at (OfficeAt.Enter one) g) (after k m (course_at l (At.Office job (OfficeAt.Enter one)))) l job
        (OfficeAt.WallSize one) (steps run (OfficeStep.enters l.seat (office_job l job) one is))
    office_runs l job (OfficeAt.WallSize one) is few word =
        goes g (after k m (course_at l (At.Office job (OfficeAt.WallSize one)))) l job (OfficeAt.WallLeft one)
        (steps run (OfficeStep.plain l.seat (office_job l job) (OfficeAt.WallSize one) is tt))
    office_runs l job (OfficeAt.WallLeft one) is few word =
        goes g (after k m (course_at l (At.Office job (OfficeAt.WallLeft one)))) l job (office_walled one)
        (steps run (OfficeStep.plain l.seat (office_job l job) (OfficeAt.WallLeft one) is tt))
    office_runs l job (OfficeAt.FirstSize one) is few word =
        goes g (after k m (course_at l (At.Office job (OfficeAt.FirstSize one)))) l job (OfficeAt.LastLeft one)
        (steps run (OfficeStep.plain l.seat (office_job l job) (OfficeAt.FirstSize one) is tt))
    office_runs l job (OfficeAt.LastLeft one) is few word =
        goes g (after k m (course_at l (At.Office job (OfficeAt.LastLeft one)))) l job (office_entered one)
        (steps run (OfficeStep.plain l.seat (office_job l job) (OfficeAt.LastLeft one) is tt))
    office_runs l job (OfficeAt.Remove given) is few word =
        goes (shadow_at (OfficeAt.Remove given) g) (after k m (course_at l (At.Office job (OfficeAt.Remove given)))) l
        job (OfficeAt.Back OfficeEnd.Given) (steps run (OfficeStep.removes l.seat (office_job l job) given is))
    office_runs l job (OfficeAt.Back end) is few word = absurd (cc)
    office_runs l job (OfficeAt.Unlock end) is few word =
        let now = (office_left l job end).0 in
        let m' = after k m (course_at l (At.Office job (OfficeAt.Unlock end))) in
        subst (Runs g m') (put_twice tasks l.seat Task.Away (task_of now))
        (out_runs g m' (put tasks l.seat Task.Away)
        (steps run (OfficeStep.unlocks l.seat (office_job l job) end is)) l.seat (task_of now)
        (put-same tasks l.seat Task.Away) (out_of now now.at (carry-office_left l job end)))

    -- a step on a word, wherever the seat is
    pub word_runs : (l : Local) (at : At) → tasks l.seat ≡ task_at l at → l.seat < 64
        → has_word (course_at l at) ≡ true
        → Runs (shadow_by at g) (after k m (course_at l at))
        (put tasks l.seat (task_of (learn_at l at (seen_by (course_at l at) (found m (course_at l at)))).0))
    word_runs l (At.Office job at) is few word = office_runs l job at is few word
    word_runs l At.Idle is few word = absurd (cc)
    word_runs l (At.Ready answer) is few word = absurd (cc)
    word_runs l at is few word =
        let on = (learn_at l at (seen_by (course_at l at) (found m (course_at l at)))).0 in
        out_runs g (after k m (course_at l at)) tasks
        (steps run (OfficeStep.others (course_at l at) (other_action (course_at l at) (else_at l at refl)))) l.seat
        (task_of on) is (out_of on on.at (carry_learn l at (seen_by (course_at l at) (found m (course_at l at))) refl))
