-- The steps of a seat at the office, what each rests on, and what it leaves.
use Rattle.std.specs.Prelude.{◌≡◌, ◌≢◌, ℕ, ◌+◌, ◌<◌, ◌≤◌, Option, Some, None, ⊤}
use Rattle.pool_types.specs.declared.policy.RegionRec.{RegionRec}
use Rattle.regions.specs.declared.errors.ObtainError.{ObtainError}
use Rattle.pool_words.specs.declared.words.Key.{Key}
use Rattle.pool_words.specs.declared.words.Word.{Word}
use Rattle.pool_words.specs.declared.actions.Action.{Action}
use Rattle.pool_words.specs.declared.actions.Action.TheVariants.{Load, Store, Swap, Exchange, Add}
use Rattle.pool_words.specs.declared.actions.Action.TheVariants.{TakeOffice, GiveOffice, Nothing}
use Rattle.pool_words.specs.declared.actions.OfficeJob.{OfficeJob}
use Rattle.pool_words.specs.declared.actions.Seen.{Seen}
use Rattle.pool_words.specs.Words.{kind_of_word, number, office_locks, regions, bases}
use Rattle.word_codes.specs.Places.{slot_of}
use Rattle.word_codes.specs.RegionWords.{FitsRegion}
use Rattle.region_steps.specs.declared.office.OfficeAt.{OfficeAt}
use Rattle.region_steps.specs.declared.office.OfficeCall.{OfficeCall}
use Rattle.region_steps.specs.declared.office.OfficeEnd.{OfficeEnd}
use Rattle.region_steps.specs.declared.office.OfficeNext.{OfficeNext}
use Rattle.region_steps.specs.Office.{region_word_of, office_course, office_learn}
use Rattle.word_laws.specs.Memory.{Mem, put, after, found}
use Rattle.office_laws.specs.Regions.{Task, Shadow, AreApart}

abbrev pub call_of : ℕ → OfficeJob → OfficeCall
call_of seat job = record { seat = seat; job = job }

-- where a seat goes on
abbrev pub task_after : OfficeJob → OfficeAt → OfficeNext → Task
task_after job at (OfficeNext.Goes next) = Task.At job next
task_after job at OfficeNext.Waits = Task.At job at
task_after job at (OfficeNext.Left end) = Task.Away

-- a region may come: its number was no region's, its slot is free, and no other has one of its granules or its wall
pub record IsFresh (g : Shadow) (one : RegionRec) : Type 0 where
  pub number : g.counter ≤ one.number
  pub slot : g.out (slot_of one.number) ≡ None
  pub fits : FitsRegion (region_word_of one)
  pub apart : (s : ℕ) (other : RegionRec) → g.out s ≡ Some other → AreApart other one

abbrev pub shadow_came : RegionRec → Shadow → Shadow
shadow_came one g = record g {
  out = put g.out (slot_of one.number) (Some one);
  counter = one.number + 1;
}

abbrev pub shadow_entered : RegionRec → Shadow → Shadow
shadow_entered one g = record g { live = put g.live (slot_of one.number) (Some one) }

abbrev pub shadow_removed : Option ℕ → Shadow → Shadow
shadow_removed (Some s) g = record g { live = put g.live s None; out = put g.out s None }
shadow_removed None g = g

-- steps that change no region
abbrev pub IsPlain : OfficeAt → Type 0
IsPlain OfficeAt.Lock = ⊥
IsPlain (OfficeAt.Region slot given) = ⊤
IsPlain (OfficeAt.Take given) = ⊥
IsPlain (OfficeAt.Base one) = ⊥
IsPlain (OfficeAt.Enter one) = ⊥
IsPlain (OfficeAt.WallSize one) = ⊤
IsPlain (OfficeAt.WallLeft one) = ⊤
IsPlain (OfficeAt.FirstSize one) = ⊤
IsPlain (OfficeAt.LastLeft one) = ⊤
IsPlain (OfficeAt.Remove given) = ⊥
IsPlain (OfficeAt.Back end) = ⊤
IsPlain (OfficeAt.Unlock end) = ⊥

-- a word that is no office's, no region's and no base
pub record IsOtherWord (w : Word) : Type 0 where
  pub no_lock : number (kind_of_word w) ≢ number office_locks
  pub no_region : number (kind_of_word w) ≢ number regions
  pub no_base : number (kind_of_word w) ≢ number bases

abbrev pub IsOtherAction : Action → Type 0
IsOtherAction (Load w) = ⊤
IsOtherAction (Store w value) = IsOtherWord w
IsOtherAction (Swap w value) = IsOtherWord w
IsOtherAction (Exchange w from to) = IsOtherWord w
IsOtherAction (Add w value) = IsOtherWord w
IsOtherAction (TakeOffice job) = ⊤
IsOtherAction GiveOffice = ⊤
IsOtherAction Nothing = ⊤

pub data OfficeStep (k : Key) (g : Shadow) (m : Mem) (tasks : ℕ → Task) : Shadow → Mem → (ℕ → Task) → Type 0 where
  begins : (seat : ℕ) (job : OfficeJob) → tasks seat ≡ Task.Away
      → OfficeStep k g m tasks g m (put tasks seat (Task.At job OfficeAt.Lock))
  -- F1: the lock is won, or the seat waits
  locks : (seat : ℕ) (job : OfficeJob) → seat < 64 → tasks seat ≡ Task.At job OfficeAt.Lock
      → OfficeStep k g m tasks g (after k m (office_course (call_of seat job) OfficeAt.Lock))
      (put tasks seat (task_after job OfficeAt.Lock (office_learn (call_of seat job) OfficeAt.Lock
      (Seen.Word (found m (office_course (call_of seat job) OfficeAt.Lock))))))
  -- F5, the stores on a region's wall and its first and last granule, F10
  plain : (seat : ℕ) (job : OfficeJob) (at : OfficeAt) → tasks seat ≡ Task.At job at → IsPlain at
      → OfficeStep k g m tasks g (after k m (office_course (call_of seat job) at))
      (put tasks seat (task_after job at (office_learn (call_of seat job) at
      (Seen.Word (found m (office_course (call_of seat job) at))))))
  -- F9: a region comes, none does, or one is to be given back
  comes : (seat granules : ℕ) (given : Option ℕ) (one : RegionRec)
      → tasks seat ≡ Task.At (OfficeJob.Obtain granules) (OfficeAt.Take given) → IsFresh g one
      → OfficeStep k g m tasks (shadow_came one g) m
      (put tasks seat (Task.At (OfficeJob.Obtain granules) (OfficeAt.Base one)))
  refused : (seat granules : ℕ) (given : Option ℕ) (error : ObtainError)
      → tasks seat ≡ Task.At (OfficeJob.Obtain granules) (OfficeAt.Take given)
      → OfficeStep k g m tasks g m
      (put tasks seat (Task.At (OfficeJob.Obtain granules) (OfficeAt.Back (OfficeEnd.Refused error))))
  gives_back : (seat first : ℕ) (given : Option ℕ) → tasks seat ≡ Task.At (OfficeJob.Give first) (OfficeAt.Take given)
      → OfficeStep k g m tasks g m (put tasks seat (Task.At (OfficeJob.Give first) (OfficeAt.Remove given)))
  -- F3: the base, and the region's word
  bases' : (seat : ℕ) (job : OfficeJob) (one : RegionRec) → tasks seat ≡ Task.At job (OfficeAt.Base one)
      → OfficeStep k g m tasks g (after k m (office_course (call_of seat job) (OfficeAt.Base one)))
      (put tasks seat (Task.At job (OfficeAt.Enter one)))
  enters : (seat : ℕ) (job : OfficeJob) (one : RegionRec) → tasks seat ≡ Task.At job (OfficeAt.Enter one)
      → OfficeStep k g m tasks (shadow_entered one g) (after k m (office_course (call_of seat job)
      (OfficeAt.Enter one)))
      (put tasks seat (Task.At job (OfficeAt.WallSize one)))
  -- F4: the region's word is cleared, and the callback gets the region right behind that
  removes : (seat : ℕ) (job : OfficeJob) (given : Option ℕ) → tasks seat ≡ Task.At job (OfficeAt.Remove given)
      → OfficeStep k g m tasks (shadow_removed given g) (after k m (office_course (call_of seat job)
      (OfficeAt.Remove given)))
      (put tasks seat (Task.At job (OfficeAt.Back OfficeEnd.Given)))
  -- F2
  unlocks : (seat : ℕ) (job : OfficeJob) (end : OfficeEnd) → tasks seat ≡ Task.At job (OfficeAt.Unlock end)
      → OfficeStep k g m tasks g (after k m (office_course (call_of seat job) (OfficeAt.Unlock end)))
      (put tasks seat Task.Away)
  -- each step on another word
  others : (action : Action) → IsOtherAction action → OfficeStep k g m tasks g (after k m action) tasks

-- any number of steps of any number of seats
pub data OfficeRun (k : Key) (g0 : Shadow) (m0 : Mem) (tasks0 : ℕ → Task) : Shadow → Mem → (ℕ → Task) → Type 0 where
  starts : OfficeRun k g0 m0 tasks0 g0 m0 tasks0
  steps : {g1 : Shadow} {m1 : Mem} {t1 : ℕ → Task} {h : Shadow} {m' : Mem} {t' : ℕ → Task}
      → OfficeRun k g0 m0 tasks0 g1 m1 t1 → OfficeStep k g1 m1 t1 h m' t' → OfficeRun k g0 m0 tasks0 h m' t'
