-- The office is left, and its seat goes on with what it asked for.
use Rattle.std.proofs.Common.{◌≡◌, ◌∙◌, ℕ, refl, sym, ap, subst}
use Rattle.std.specs.Prelude.{Some, None}
use Rattle.pool_words.specs.declared.words.Key.{Key}
use Rattle.region_steps.specs.declared.office.OfficeAt.{OfficeAt}
use Rattle.region_steps.specs.declared.office.OfficeEnd.{OfficeEnd}
use Rattle.word_laws.specs.Memory.{put}
use Rattle.word_laws.proofs.CallerLemmas.{put_here}
use Rattle.office_laws.specs.Regions as offices
use Rattle.queue_laws.specs.Queue as queues
use Rattle.queue_laws.specs.Steps.{QueueStep, with_queue}
use Rattle.region_laws.specs.Granules.{State}
use Rattle.region_laws.specs.Steps.{RegionStep, mem_at}
use Rattle.use_laws.specs.After.{with_mem}
use Rattle.free_laws.specs.Spaces.{queue_of, queue_tasks}
use Rattle.free_laws.specs.Steps as spaces
use Rattle.cache_laws.specs.Good.{hand}
use Rattle.step_local.specs.declared.frames.Local.{Local}
use Rattle.step_local.specs.declared.frames.OfficeFor.{OfficeFor}
use Rattle.step_local.specs.Backend.{office_job}
use Rattle.step_local.specs.Learn.{learn}
use Rattle.step_runs.proofs.CallerLemmas.{steps_go_onward}
use Rattle.backend_tasks.proofs.CallerLemmas.{bare-obtained_as, bare-put_done}
use Rattle.hand_blocks.specs.Hands.{hands_of}
use Rattle.pool_laws.specs.Changes.{with_regions, with_space}
use Rattle.pool_laws.specs.Steps.{WholeStep}
use Rattle.pool_laws.specs.Wholes.{Whole, regions_of, space_of}
use Rattle.seat_ties.specs.Left.{Suits}
use Rattle.seat_ties.specs.Says.{WordsSay}
use Rattle.seat_ties.specs.Ties.{HandsTied, SeatTied}
use Rattle.backend_tasks.specs.Queue.{queue_left}
use Rattle.seat_ties.specs.Turns.{DeskStarts, may_start, SeatRun, stays, steps_on, StateHere, StepLeaves, found_in, seen_in}
use Rattle.seat_ties.proofs.CallerLemmas.{bare_says_nothing, desk_starts, seats_left_are_here}
use Rattle.office_moves.proofs.Settings.{at_office, free_at}
use Rattle.office_moves.proofs.Plain.{still_hands}

module _ (k : Key) (w : Whole) (l : Local) (job : OfficeFor) (end : OfficeEnd) where
  abbrev pub leaving_now : Local
  leaving_now = at_office l job (OfficeAt.Unlock end)

  abbrev pub left : State
  left = record (regions_of w) {
    pool = with_mem (mem_at k l.seat (office_job leaving_now job) (OfficeAt.Unlock end) (regions_of w)) w.pool;
    desks = put w.desks l.seat offices.Task.Away;
  }

  abbrev pub left_whole : Whole
  left_whole = with_regions left w

  pub leaves_run : SeatTied k w l.seat leaving_now → SeatRun k l.seat w left_whole
  leaves_run tied = steps_on stays (WholeStep.office left
      (RegionStep.unlocks (office_job leaving_now job) end tied.tasks.desks) tt
      (free_at k w l job (OfficeAt.Unlock end) tied))

  starts : DeskStarts (learn leaving_now (seen_in w leaving_now)).0
  starts =
      let onward = (steps_go_onward leaving_now (found_in w leaving_now) refl).carry in
      desk_starts (learn leaving_now (seen_in w leaving_now)).0.at onward.1

  -- where the queue's task is what is left of it, the next position is there
  pub left_here : (later : Whole) → later ≡ record left_whole { queue = later.queue }
      → SeatTied k w l.seat leaving_now → Suits k leaving_now (seen_in w leaving_now)
      → later.queue l.seat ≡ queue_left leaving_now (seen_in w leaving_now)
      → WordsSay later l.seat (learn leaving_now (seen_in w leaving_now)).0
      → StateHere k later l.seat (learn leaving_now (seen_in w leaving_now)).0
  left_here later is tied suits queue words =
      seats_left_are_here k later l.seat leaving_now (seen_in w leaving_now) tied.says suits
      (record {
        tasks = record {
          guards = ap (λ v. v.pool.tasks l.seat) is ∙ tied.tasks.guards;
          bins = ap (λ v. v.bins l.seat) is ∙ tied.tasks.bins;
          queue = queue;
          objects = ap (λ v. v.pool.locals.tasks l.seat) is ∙ tied.tasks.objects;
          mails = ap (λ v. v.mails l.seat) is ∙ tied.tasks.mails;
          orphans = ap (λ v. v.tasks l.seat) is ∙ tied.tasks.orphans;
          jobs = ap (λ v. v.jobs l.seat) is ∙ tied.tasks.jobs;
          desks = may_start (ap (λ v. v.desks l.seat) is
              ∙ put_here w.desks l.seat l.seat offices.Task.Away refl) starts;
        };
        heap = record {
          kept = ap (λ v. v.pool.kept l.seat) is ∙ tied.heap.kept;
          cached = ap (λ v. v.pool.cached l.seat) is ∙ tied.heap.cached;
          spares = ap (λ v. v.spares l.seat) is ∙ tied.heap.spares;
          last = ap (λ v. v.pool.locals.lasts l.seat) is ∙ tied.heap.last;
        };
        notes = ap (λ v. v.pool.locals.notes l.seat) is ∙ tied.notes;
      })
      (subst (λ v. HandsTied v.pool.blocks.place (v.drained l.seat) l.seat
      (hands_of (learn leaving_now (seen_in w leaving_now)).0)) (sym is)
      (still_hands k w l job (OfficeAt.Unlock end) (seen_in w leaving_now) tied suits tt))
      words

-- a seat that asked for a region, or gave one back and put no block of the queue
pub asked_ends : (k : Key) (w : Whole) (l : Local) (end : OfficeEnd)
    → SeatTied k w l.seat (at_office l OfficeFor.Ask (OfficeAt.Unlock end))
    → Suits k (at_office l OfficeFor.Ask (OfficeAt.Unlock end))
    (seen_in w (at_office l OfficeFor.Ask (OfficeAt.Unlock end)))
    → StepLeaves k w (at_office l OfficeFor.Ask (OfficeAt.Unlock end))
asked_ends k w l end tied suits =
    let lo : Local = at_office l OfficeFor.Ask (OfficeAt.Unlock end) in
    let later : Whole = left_whole k w l OfficeFor.Ask end in
    record {
      later = later;
      run = leaves_run k w l OfficeFor.Ask end tied;
      office = refl;
      words = refl;
      here = left_here k w l OfficeFor.Ask end later refl tied suits tied.tasks.queue
          (bare_says_nothing later l.seat (learn lo (seen_in w lo)).0 (bare-obtained_as lo end)).words;
    }

pub put_ends : (k : Key) (w : Whole) (l : Local) (first : ℕ) (end : OfficeEnd)
    → SeatTied k w l.seat (at_office l (OfficeFor.Put first) (OfficeAt.Unlock end))
    → Suits k (at_office l (OfficeFor.Put first) (OfficeAt.Unlock end))
    (seen_in w (at_office l (OfficeFor.Put first) (OfficeAt.Unlock end)))
    → StepLeaves k w (at_office l (OfficeFor.Put first) (OfficeAt.Unlock end))
put_ends k w l first end tied suits =
    let lo : Local = at_office l (OfficeFor.Put first) (OfficeAt.Unlock end) in
    let later : Whole = left_whole k w l (OfficeFor.Put first) end in
    record {
      later = later;
      run = leaves_run k w l (OfficeFor.Put first) end tied;
      office = refl;
      words = refl;
      here = left_here k w l (OfficeFor.Put first) end later refl tied suits tied.tasks.queue
          (bare_says_nothing later l.seat (learn lo (seen_in w lo)).0 (bare-put_done lo)).words;
    }

-- one that gave back the region of a block of the queue goes on with the next one, or ends
pub drain_goes : (k : Key) (w : Whole) (l : Local) (first next : ℕ) (end : OfficeEnd)
    → SeatTied k w l.seat (at_office l (OfficeFor.Drain first (Some next)) (OfficeAt.Unlock end))
    → Suits k (at_office l (OfficeFor.Drain first (Some next)) (OfficeAt.Unlock end))
    (seen_in w (at_office l (OfficeFor.Drain first (Some next)) (OfficeAt.Unlock end)))
    → StepLeaves k w (at_office l (OfficeFor.Drain first (Some next)) (OfficeAt.Unlock end))
drain_goes k w l first next end tied suits =
    let later : Whole = left_whole k w l (OfficeFor.Drain first (Some next)) end in
    record {
      later = later;
      run = leaves_run k w l (OfficeFor.Drain first (Some next)) end tied;
      office = refl;
      words = refl;
      here = left_here k w l (OfficeFor.Drain first (Some next)) end later refl tied suits tied.tasks.queue tt;
    }

pub drain_ends : (k : Key) (w : Whole) (l : Local) (first : ℕ) (end : OfficeEnd)
    → SeatTied k w l.seat (at_office l (OfficeFor.Drain first None) (OfficeAt.Unlock end))
    → Suits k (at_office l (OfficeFor.Drain first None) (OfficeAt.Unlock end))
    (seen_in w (at_office l (OfficeFor.Drain first None) (OfficeAt.Unlock end)))
    → StepLeaves k w (at_office l (OfficeFor.Drain first None) (OfficeAt.Unlock end))
drain_ends k w l first end tied suits =
    let middle : Whole = left_whole k w l (OfficeFor.Drain first None) end in
    let later : Whole = with_space (spaces.with_queue (queue_of (space_of middle)) middle.pool.mem
    (with_queue l.seat queues.Task.Away (queue_tasks (space_of middle))) (space_of middle)) middle in
    record {
      later = later;
      run = steps_on (leaves_run k w l (OfficeFor.Drain first None) end tied)
          (WholeStep.queue (queue_of (space_of middle)) middle.pool.mem
          (with_queue l.seat queues.Task.Away (queue_tasks (space_of middle))) (QueueStep.ends tied.tasks.queue) tt
          (ap (λ t. hand t) tied.tasks.jobs));
      office = refl;
      words = refl;
      here = left_here k w l (OfficeFor.Drain first None) end later refl tied suits
          (put_here w.queue l.seat l.seat queues.Task.Away refl) tt;
    }
