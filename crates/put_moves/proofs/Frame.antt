-- What a turn leaves of guards, bins, the queue and what is in hand, where it leaves all else as it is.
use Rattle.std.proofs.Common.{◌≡◌, ◌∙◌, ℕ, List, None, true, refl, ap, subst, sym}
use Rattle.pool_words.specs.declared.words.Key.{Key}
use Rattle.pool_words.specs.declared.actions.Action.{Action}
use Rattle.pool_words.specs.declared.actions.Seen.{Seen}
use Rattle.pool_words.specs.Actions.{word_seen}
use Rattle.word_laws.specs.Memory.{after}
use Rattle.guard_laws.specs.Blocks as blocks
use Rattle.guard_laws.specs.Blocks.{Place}
use Rattle.bin_laws.specs.Bins as binning
use Rattle.queue_laws.specs.Queue as queues
use Rattle.coalescer.specs.declared.drain.DrainAt.{DrainAt}
use Rattle.coalescer.specs.declared.put.PutAt.{PutAt}
use Rattle.step_local.specs.declared.frames.At.{At}
use Rattle.step_local.specs.declared.frames.Local.{Local}
use Rattle.step_local.specs.Course.{course}
use Rattle.step_runs.specs.Places.{has_word}
use Rattle.backend_tasks.specs.Bins.{bin_left}
use Rattle.backend_tasks.specs.Guards.{guard_left}
use Rattle.backend_tasks.specs.Queue.{queue_left}
use Rattle.cache_laws.specs.Good.{hand}
use Rattle.hand_blocks.specs.Hands.{hands_of}
use Rattle.pool_laws.specs.Wholes.{Whole}
use Rattle.seat_ties.specs.Left.{Suits}
use Rattle.seat_ties.specs.Says.{WordsSay}
use Rattle.seat_ties.specs.Ties.{HandsTied, SeatTied}
use Rattle.seat_ties.specs.Turns.{SeatRun, StepLeaves, may_start, found_in, next_in, seen_in}
use Rattle.seat_ties.proofs.CallerLemmas.{seats_left_are_here, turns_start_desks}

-- objects, heaps, mail, orphans, the cache and the office are as they were
pub record SameElse (w later : Whole) : Type 0 where
  pub locals : later.pool.locals ≡ w.pool.locals
  pub kept : later.pool.kept ≡ w.pool.kept
  pub cached : later.pool.cached ≡ w.pool.cached
  pub jobs : later.jobs ≡ w.jobs
  pub desks : later.desks ≡ w.desks
  pub office : later.office ≡ w.office
  pub settled : later.settled ≡ w.settled
  pub mails : later.mails ≡ w.mails
  pub tasks : later.tasks ≡ w.tasks
  pub spares : later.spares ≡ w.spares

-- what the seat is about to do with guards, in bins and with the queue
pub record Tasks : Type 0 where
  pub guard : blocks.Task
  pub bin : binning.Task
  pub line : queues.Task

abbrev pub tasks : blocks.Task → binning.Task → queues.Task → Tasks
tasks guard bin line = record { guard = guard; bin = bin; line = line }

-- before a step: these are the seat's tasks, and it puts no block into the cache of large blocks
pub record Now (w : Whole) (seat : ℕ) (t : Tasks) : Type 0 where
  pub guards : w.pool.tasks seat ≡ t.guard
  pub bins : w.bins seat ≡ t.bin
  pub queue : w.queue seat ≡ t.line
  pub jobs : hand (w.jobs seat) ≡ None

-- steps of the seat leave these tasks, places and blocks that it took of the queue
pub record Steps (k : Key) (w : Whole) (seat : ℕ) (action : Action) (t : Tasks) (place' : ℕ → Place) (gone : List ℕ)
    : Type 0 where
  pub later : Whole
  pub run : SeatRun k seat w later
  pub words : later.pool.mem ≡ after k w.pool.mem action
  pub guards : later.pool.tasks seat ≡ t.guard
  pub bins : later.bins seat ≡ t.bin
  pub queue : later.queue seat ≡ t.line
  pub same : SameElse w later
  pub place : later.pool.blocks.place ≡ place'
  pub drained : later.drained seat ≡ gone

-- what the words say behind the step
abbrev pub SaysBehind : Key → Whole → Action → (ℕ → Place) → ℕ → Local → Type 0
SaysBehind k w action place' seat next =
    (later : Whole) → later.pool.mem ≡ after k w.pool.mem action → later.settled ≡ w.settled
    → later.pool.blocks.place ≡ place' → WordsSay later seat next

abbrev pub left_tasks : Local → Seen → Tasks
left_tasks l s = tasks (guard_left l (word_seen s)) (bin_left l (word_seen s)) (queue_left l s)

-- the steps of a turn, with what is in hand behind it and what the words say
pub record LeavesNext (k : Key) (w : Whole) (l : Local) : Type 0 where
  pub place' : ℕ → Place
  pub gone : List ℕ
  pub steps : Steps k w l.seat (course l) (left_tasks l (seen_in w l)) place' gone
  pub hands : HandsTied place' gone l.seat (hands_of (next_in w l))
  pub says : SaysBehind k w (course l) place' l.seat (next_in w l)

hands_left : (k : Key) (w : Whole) (l : Local) → (left : LeavesNext k w l)
    → HandsTied left.steps.later.pool.blocks.place (left.steps.later.drained l.seat) l.seat (hands_of (next_in w l))
hands_left k w l left =
    subst (λ place. HandsTied place (left.steps.later.drained l.seat) l.seat (hands_of (next_in w l)))
    (sym left.steps.place)
    (subst (λ gone. HandsTied left.place' gone l.seat (hands_of (next_in w l))) (sym left.steps.drained) left.hands)

says_left : (k : Key) (w : Whole) (l : Local) → (left : LeavesNext k w l)
    → WordsSay left.steps.later l.seat (next_in w l)
says_left k w l left =
    left.says left.steps.later left.steps.words left.steps.same.settled left.steps.place

abbrev pub putting : Local → PutAt → Local
putting l at = record l { at = At.Put at }

abbrev pub draining : Local → DrainAt → Local
draining l at = record l { at = At.Drain at }

pub puts_leave : (k : Key) (w : Whole) (l : Local) (at : PutAt) → SeatTied k w l.seat (putting l at)
    → has_word (course (putting l at)) ≡ true → Suits k (putting l at) (seen_in w (putting l at))
    → LeavesNext k w (putting l at) → StepLeaves k w (putting l at)
puts_leave k w l at tied word suits left =
    let now = putting l at in
    record {
      later = left.steps.later;
      run = left.steps.run;
      words = left.steps.words;
      office = left.steps.same.office;
      here = seats_left_are_here k left.steps.later l.seat now (seen_in w now) tied.says suits
          (record {
            tasks = record {
              guards = left.steps.guards;
              bins = left.steps.bins;
              queue = left.steps.queue;
              objects = ap (λ x. x.tasks l.seat) left.steps.same.locals ∙ tied.tasks.objects;
              mails = ap (λ x. x l.seat) left.steps.same.mails ∙ tied.tasks.mails;
              orphans = ap (λ x. x l.seat) left.steps.same.tasks ∙ tied.tasks.orphans;
              jobs = ap (λ x. x l.seat) left.steps.same.jobs ∙ tied.tasks.jobs;
              desks = may_start (ap (λ x. x l.seat) left.steps.same.desks ∙ tied.tasks.desks)
                  (turns_start_desks now (found_in w now) word refl);
            };
            heap = record {
              kept = ap (λ x. x l.seat) left.steps.same.kept ∙ tied.heap.kept;
              cached = ap (λ x. x l.seat) left.steps.same.cached ∙ tied.heap.cached;
              spares = ap (λ x. x l.seat) left.steps.same.spares ∙ tied.heap.spares;
              last = ap (λ x. x.lasts l.seat) left.steps.same.locals ∙ tied.heap.last;
            };
            notes = ap (λ x. x.notes l.seat) left.steps.same.locals ∙ tied.notes;
          }) (hands_left k w now left) (says_left k w now left);
    }

pub drains_leave : (k : Key) (w : Whole) (l : Local) (at : DrainAt) → SeatTied k w l.seat (draining l at)
    → has_word (course (draining l at)) ≡ true → Suits k (draining l at) (seen_in w (draining l at))
    → LeavesNext k w (draining l at) → StepLeaves k w (draining l at)
drains_leave k w l at tied word suits left =
    let now = draining l at in
    record {
      later = left.steps.later;
      run = left.steps.run;
      words = left.steps.words;
      office = left.steps.same.office;
      here = seats_left_are_here k left.steps.later l.seat now (seen_in w now) tied.says suits
          (record {
            tasks = record {
              guards = left.steps.guards;
              bins = left.steps.bins;
              queue = left.steps.queue;
              objects = ap (λ x. x.tasks l.seat) left.steps.same.locals ∙ tied.tasks.objects;
              mails = ap (λ x. x l.seat) left.steps.same.mails ∙ tied.tasks.mails;
              orphans = ap (λ x. x l.seat) left.steps.same.tasks ∙ tied.tasks.orphans;
              jobs = ap (λ x. x l.seat) left.steps.same.jobs ∙ tied.tasks.jobs;
              desks = may_start (ap (λ x. x l.seat) left.steps.same.desks ∙ tied.tasks.desks)
                  (turns_start_desks now (found_in w now) word refl);
            };
            heap = record {
              kept = ap (λ x. x l.seat) left.steps.same.kept ∙ tied.heap.kept;
              cached = ap (λ x. x l.seat) left.steps.same.cached ∙ tied.heap.cached;
              spares = ap (λ x. x l.seat) left.steps.same.spares ∙ tied.heap.spares;
              last = ap (λ x. x.lasts l.seat) left.steps.same.locals ∙ tied.heap.last;
            };
            notes = ap (λ x. x.notes l.seat) left.steps.same.locals ∙ tied.notes;
          }) (hands_left k w now left) (says_left k w now left);
    }
