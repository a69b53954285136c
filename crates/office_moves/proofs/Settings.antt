-- What a step at the office leaves of its seat but for what it makes of blocks and regions.
use Rattle.std.proofs.Common.{◌≡◌, ◌∙◌, ℕ, refl, sym, ap, subst}
use Rattle.std.specs.Prelude.{Option}
use Rattle.pool_types.specs.declared.policy.RegionRec.{RegionRec}
use Rattle.pool_words.specs.declared.words.Key.{Key}
use Rattle.pool_words.specs.declared.actions.Seen.{Seen}
use Rattle.region_steps.specs.declared.office.OfficeAt.{OfficeAt}
use Rattle.region_steps.specs.declared.office.OfficeNext.{OfficeNext}
use Rattle.region_steps.specs.Office.{office_learn}
use Rattle.word_laws.specs.Memory.{Mem, put}
use Rattle.word_laws.proofs.CallerLemmas.{put_here}
use Rattle.guard_laws.specs.Blocks as guards
use Rattle.queue_laws.specs.Steps.{IsIdle}
use Rattle.cache_laws.specs.Good.{hand}
use Rattle.office_laws.specs.Regions.{Task}
use Rattle.office_laws.specs.Regions as offices
use Rattle.step_local.specs.declared.frames.At.{At}
use Rattle.step_local.specs.declared.frames.Local.{Local}
use Rattle.step_local.specs.declared.frames.OfficeFor.{OfficeFor}
use Rattle.step_local.specs.Backend.{office_as, office_call, office_job}
use Rattle.step_local.specs.Learn.{learn}
use Rattle.step_laws.specs.Tasks.{task_of}
use Rattle.backend_tasks.specs.Queue.{office_queue, office_queue_left}
use Rattle.hand_blocks.specs.Hands.{hands_of}
use Rattle.pool_laws.specs.Steps.{IsFree}
use Rattle.pool_laws.specs.Wholes.{Whole}
use Rattle.seat_ties.specs.Left.{Suits}
use Rattle.seat_ties.specs.Says.{WordsSay}
use Rattle.seat_ties.specs.Ties.{HandsTied, SeatTied}
use Rattle.seat_ties.specs.Turns.{goes_on, StateHere}
use Rattle.seat_ties.proofs.CallerLemmas.{seats_left_are_here}

-- the local at this position
abbrev pub at_office : Local → OfficeFor → OfficeAt → Local
at_office l job at = record l { at = At.Office job at }

-- what the position asks of the office is asked wherever it is
pub same_job : (l : Local) (job : OfficeFor) (at next : OfficeAt)
    → office_job (at_office l job next) job ≡ office_job (at_office l job at) job
same_job l OfficeFor.Ask at next = refl
same_job l (OfficeFor.Put first) at next = refl
same_job l (OfficeFor.Drain first rest) at next = refl

queue_on : (job : OfficeFor) (next : OfficeAt) → office_queue_left job (OfficeNext.Goes next) ≡ office_queue job
queue_on OfficeFor.Ask next = refl
queue_on (OfficeFor.Put first) next = refl
queue_on (OfficeFor.Drain first rest) next = refl

queue_waits : (job : OfficeFor) → office_queue_left job OfficeNext.Waits ≡ office_queue job
queue_waits OfficeFor.Ask = refl
queue_waits (OfficeFor.Put first) = refl
queue_waits (OfficeFor.Drain first rest) = refl

idle_by : (job : OfficeFor) → IsIdle (office_queue job)
idle_by OfficeFor.Ask = tt
idle_by (OfficeFor.Put first) = tt
idle_by (OfficeFor.Drain first rest) = tt

-- at the office a seat puts no block into the cache or the queue
pub free_at : (k : Key) (w : Whole) (l : Local) (job : OfficeFor) (at : OfficeAt)
    → SeatTied k w l.seat (at_office l job at) → IsFree w l.seat
free_at k w l job at tied = record {
  shelf = ap (λ t. hand t) tied.tasks.jobs;
  queue = subst IsIdle (sym tied.tasks.queue) (idle_by job);
}

-- the whole with these words, blocks, desks and regions
abbrev pub regions_with : Mem → guards.Shadow → (ℕ → Task) → (ℕ → Option RegionRec) → offices.Shadow → Whole → Whole
regions_with m blocks desks settled office w = record w {
  pool = record w.pool { mem = m; blocks = blocks };
  desks = desks;
  settled = settled;
  office = office;
}

-- where the seat goes on
pub record GoesTo (l : Local) (job : OfficeFor) (at : OfficeAt) (s : Seen) (next : OfficeAt) (off : OfficeNext) : Type 0
  where
    pub learns : office_learn (office_call (at_office l job at) job) at s ≡ off
    pub leads : (office_as (at_office l job at) job at off).0 ≡ at_office l job next
    pub queue : office_queue_left job off ≡ office_queue job

pub to_next : (l : Local) (job : OfficeFor) (at : OfficeAt) (s : Seen) (next : OfficeAt)
    → office_learn (office_call (at_office l job at) job) at s ≡ OfficeNext.Goes next
    → GoesTo l job at s next (OfficeNext.Goes next)
to_next l job at s next e = record { learns = e; leads = refl; queue = queue_on job next }

pub to_same : (l : Local) (job : OfficeFor) (at : OfficeAt) (s : Seen)
    → office_learn (office_call (at_office l job at) job) at s ≡ OfficeNext.Waits
    → GoesTo l job at s at OfficeNext.Waits
to_same l job at s e = record { learns = e; leads = refl; queue = queue_waits job }

module _ (k : Key) (w : Whole) (l : Local) (job : OfficeFor) (at : OfficeAt) (s : Seen)
    (tied : SeatTied k w l.seat (at_office l job at)) (suits : Suits k (at_office l job at) s)
    (m : Mem) (blocks : guards.Shadow) (settled : ℕ → Option RegionRec) (office : offices.Shadow) where
  abbrev pub lo : Local
  lo = at_office l job at

  abbrev pub to_desk : Task → Whole
  to_desk task = regions_with m blocks (put w.desks l.seat task) settled office w

  pub next_is : (next : OfficeAt) (off : OfficeNext) → GoesTo l job at s next off → (learn lo s).0 ≡ at_office l job next
  next_is next off to = ap (λ n. (office_as lo job at n).0) to.learns ∙ to.leads

  desk_at : (next : OfficeAt) (task : Task) → task ≡ Task.At (office_job lo job) next
      → put w.desks l.seat task l.seat ≡ task_of (at_office l job next)
  desk_at next task is = put_here w.desks l.seat l.seat task refl ∙ is
      ∙ ap (λ j. Task.At j next) (sym (same_job l job at next))

  -- the seat's next position is there, where its hands and the words are
  pub goes_to : (next : OfficeAt) (off : OfficeNext) (task : Task) → GoesTo l job at s next off
      → task ≡ Task.At (office_job lo job) next
      → HandsTied blocks.place (w.drained l.seat) l.seat (hands_of (learn lo s).0)
      → WordsSay (to_desk task) l.seat (at_office l job next) → StateHere k (to_desk task) l.seat (learn lo s).0
  goes_to next off task to is hands words =
      let later : Whole = to_desk task in
      let on = next_is next off to in
      seats_left_are_here k later l.seat lo s tied.says suits
      (record {
        tasks = record {
          guards = tied.tasks.guards;
          bins = tied.tasks.bins;
          queue = tied.tasks.queue ∙ sym (ap (office_queue_left job) to.learns ∙ to.queue);
          objects = tied.tasks.objects;
          mails = tied.tasks.mails;
          orphans = tied.tasks.orphans;
          jobs = tied.tasks.jobs;
          desks = goes_on (desk_at next task is ∙ sym (ap task_of on));
        };
        heap = record {
          kept = tied.heap.kept;
          cached = tied.heap.cached;
          spares = tied.heap.spares;
          last = tied.heap.last;
        };
        notes = tied.notes;
      })
      hands (subst (WordsSay later l.seat) (sym on) words)
