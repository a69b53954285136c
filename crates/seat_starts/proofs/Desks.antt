-- A job at the office begins with its lock, and jobs at the cache and the backend with theirs.
use Rattle.std.proofs.Common.{◌≡◌, ◌∙◌, ℕ, refl, sym}
use Rattle.pool_words.specs.declared.words.Key.{Key}
use Rattle.region_steps.specs.declared.office.OfficeAt.{OfficeAt}
use Rattle.word_laws.specs.Memory.{put}
use Rattle.word_laws.proofs.CallerLemmas.{put_here}
use Rattle.office_laws.specs.Regions.{Task}
use Rattle.region_laws.specs.Steps.{RegionStep, with_desk}
use Rattle.step_local.specs.declared.frames.At.{At}
use Rattle.step_local.specs.declared.frames.Local.{Local}
use Rattle.step_local.specs.declared.frames.OfficeFor.{OfficeFor}
use Rattle.step_local.specs.Backend.{office_job}
use Rattle.step_laws.specs.Tasks.{task_at}
use Rattle.pool_laws.specs.Steps.{IsFree, WholeStep}
use Rattle.pool_laws.specs.Wholes.{Whole, regions_of}
use Rattle.seat_ties.specs.Turns.{DeskStartsAt, Here, goes_on, may_start, SeatRun, stays, steps_on}

-- where a position says that nothing is done, nothing is
pub calm : {T : Type 0} {have says away : T} {Start : Type 0} → Here have says away Start → says ≡ away → have ≡ says
calm (goes_on e) away = e
calm (may_start e start) away = e ∙ sym away

-- where nothing may start, it goes on
pub going : {T : Type 0} {have says away : T} {Start : Type 0} → Here have says away Start → (Start → ⊥) → have ≡ says
going (goes_on e) never = e
going (may_start e start) never = absurd (never start)

pub record DeskBegun (k : Key) (w : Whole) (seat : ℕ) (task : Task) : Type 0 where
  pub desks : ℕ → Task
  pub run : SeatRun k seat w (record w { desks = desks })
  pub are : desks seat ≡ task

pub same_desk : (k : Key) (w : Whole) (seat : ℕ) (task : Task) → w.desks seat ≡ task → DeskBegun k w seat task
same_desk k w seat task is = record { desks = w.desks; run = stays; are = is }

lock_begun : (k : Key) (w : Whole) (l : Local) (job : OfficeFor) → IsFree w l.seat
    → Here (w.desks l.seat) (Task.At (office_job l job) OfficeAt.Lock) Task.Away (OfficeAt.Lock ≡ OfficeAt.Lock)
    → DeskBegun k w l.seat (Task.At (office_job l job) OfficeAt.Lock)
lock_begun k w l job free (goes_on e) = same_desk k w l.seat (Task.At (office_job l job) OfficeAt.Lock) e
lock_begun k w l job free (may_start away start) =
    let task : Task = Task.At (office_job l job) OfficeAt.Lock in
    record {
      desks = put w.desks l.seat task;
      run = steps_on stays (WholeStep.office (with_desk l.seat task (regions_of w))
          (RegionStep.begins (office_job l job) away) tt free);
      are = put_here w.desks l.seat l.seat task refl;
    }

not_lock : (at : OfficeAt) → (at ≡ OfficeAt.Lock → ⊥) → at ≡ OfficeAt.Lock → ⊥
not_lock at never is = never is

pub desk_begun : (k : Key) (w : Whole) (l : Local) (at : At) → IsFree w l.seat
    → Here (w.desks l.seat) (task_at l at) Task.Away (DeskStartsAt at) → DeskBegun k w l.seat (task_at l at)
desk_begun k w l (At.Office job OfficeAt.Lock) free here = lock_begun k w l job free here
desk_begun k w l (At.Office job at) free here =
    same_desk k w l.seat (task_at l (At.Office job at)) (going here (λ is. cc))
desk_begun k w l at free here = same_desk k w l.seat (task_at l at) (calm here refl)
