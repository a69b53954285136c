-- What each turn with mail leaves as it is, and what is left to show of one.
use Rattle.std.proofs.Common.{◌≡◌, ◌++◌, ℕ, List, [], true, refl, sym, ap, ◌∙◌, subst}
use Rattle.pool_words.specs.declared.actions.Action.{Action}
use Rattle.pool_words.specs.declared.actions.Action.TheVariants.{Load, Store, Swap, Exchange, Add, TakeOffice}
use Rattle.pool_words.specs.declared.actions.Action.TheVariants.{GiveOffice, Nothing}
use Rattle.pool_words.specs.declared.actions.Seen.{Seen}
use Rattle.pool_words.specs.declared.words.Key.{Key}
use Rattle.pool_words.specs.Actions.{word_seen}
use Rattle.word_laws.specs.Memory.{Mem, after, found}
use Rattle.guard_laws.specs.Blocks as guarding
use Rattle.guard_laws.specs.Blocks.{Place}
use Rattle.object_laws.specs.Objects as objects
use Rattle.object_laws.specs.Objects.{Note}
use Rattle.office_laws.specs.Regions as office
use Rattle.bin_laws.specs.Bins as binning
use Rattle.queue_laws.specs.Queue as queueing
use Rattle.queue_laws.specs.Steps.{IsIdle}
use Rattle.cache_laws.specs.Good as caching
use Rattle.cache_laws.specs.Good.{hand}
use Rattle.step_local.specs.declared.frames.At.{At}
use Rattle.step_local.specs.declared.frames.Local.{Local}
use Rattle.step_local.specs.Course.{course}
use Rattle.step_runs.specs.Entries.{seen_by}
use Rattle.step_runs.specs.Places.{has_word}
use Rattle.step_laws.specs.Tasks.{task_at}
use Rattle.step_tasks.specs.Mail.{mail_left}
use Rattle.step_tasks.specs.Objects.{object_task_of, task_left, Starts}
use Rattle.backend_tasks.specs.Bins.{bin_left_at, bin_task_at}
use Rattle.backend_tasks.specs.Guards.{guard_left_at, guard_task_at}
use Rattle.backend_tasks.specs.Queue.{queue_left_at, queue_task_at}
use Rattle.cache_tasks.specs.Cache.{cache_left_at, cache_task_at}
use Rattle.orphan_tasks.specs.Orphans.{orphan_left, spares_left}
use Rattle.heap_tasks.specs.Heaps.{cached_left_at, cached_of, kept_left, last_left_at, last_of}
use Rattle.heap_tasks.specs.Notes.{notes_added_at, notes_of}
use Rattle.hand_blocks.specs.Changes.{HandsLead, changes_at}
use Rattle.hand_blocks.specs.Hands.{hands_at, hands_of}
use Rattle.hand_blocks.proofs.CallerLemmas.{turns_change_hands}
use Rattle.pool_laws.specs.Steps.{IsFree}
use Rattle.pool_laws.specs.Wholes.{Whole}
use Rattle.seat_ties.specs.Left.{Suits}
use Rattle.seat_ties.specs.Says.{IsElsewhere}
use Rattle.seat_ties.specs.Ties.{HandsTied, SeatTied}
use Rattle.seat_ties.specs.Turns.{Here, NotesHere, SeatRun, StateHere, StepLeaves, found_in, may_start, next_in}
use Rattle.seat_ties.specs.Turns.{seen_in}
use Rattle.seat_ties.proofs.CallerLemmas.{elsewhere_leaves_office, nothing_is_said_elsewhere, seats_left_are_here}
use Rattle.seat_ties.proofs.CallerLemmas.{turns_start_desks}
use Rattle.mail_moves.specs.Positions.{IsMailAt}

-- what a seat is told is what its step found
pub told : (action : Action) (m : Mem) → word_seen (seen_by action (found m action)) ≡ found m action
told (Load w) m = refl
told (Store w value) m = refl
told (Swap w value) m = refl
told (Exchange w from to) m = refl
told (Add w value) m = refl
told (TakeOffice job) m = refl
told GiveOffice m = refl
told Nothing m = refl

-- at these positions a seat is off the backend, the cache and the office, has nothing in hand, and grants nothing
pub record Quiet (l : Local) (at : At) : Type 0 where
  pub guards : guard_task_at l at ≡ guarding.Task.Away
  pub guards' : (f : ℕ) → guard_left_at l at f ≡ guarding.Task.Away
  pub bins : bin_task_at l at ≡ binning.Task.Away
  pub bins' : (f : ℕ) → bin_left_at l at f ≡ binning.Task.Away
  pub queue : queue_task_at l at ≡ queueing.Task.Away
  pub queue' : (s : Seen) → queue_left_at l at s ≡ queueing.Task.Away
  pub jobs : cache_task_at l at ≡ caching.Task.Away
  pub jobs' : (f : ℕ) → cache_left_at l at f ≡ caching.Task.Away
  pub desks : task_at l at ≡ office.Task.Away
  pub cached : cached_left_at l at ≡ cached_of l
  pub last : last_left_at l at ≡ last_of l
  pub notes : (f : ℕ) → notes_added_at l at f ≡ []
  pub changes : (f : ℕ) → changes_at l at f ≡ []
  pub hands : hands_at l at ≡ []
  pub elsewhere : IsElsewhere at

pub quiet : (l : Local) (at : At) → IsMailAt at → Quiet l at
quiet l (At.Mail at) is = record {
  guards = refl;
  guards' = λ f. refl;
  bins = refl;
  bins' = λ f. refl;
  queue = refl;
  queue' = λ s. refl;
  jobs = refl;
  jobs' = λ f. refl;
  desks = refl;
  cached = refl;
  last = refl;
  notes = λ f. refl;
  changes = λ f. refl;
  hands = refl;
  elsewhere = tt;
}
quiet l (At.Mailbox at) is = record {
  guards = refl;
  guards' = λ f. refl;
  bins = refl;
  bins' = λ f. refl;
  queue = refl;
  queue' = λ s. refl;
  jobs = refl;
  jobs' = λ f. refl;
  desks = refl;
  cached = refl;
  last = refl;
  notes = λ f. refl;
  changes = λ f. refl;
  hands = refl;
  elsewhere = tt;
}
quiet l (At.Adopt at) is = record {
  guards = refl;
  guards' = λ f. refl;
  bins = refl;
  bins' = λ f. refl;
  queue = refl;
  queue' = λ s. refl;
  jobs = refl;
  jobs' = λ f. refl;
  desks = refl;
  cached = refl;
  last = refl;
  notes = λ f. refl;
  changes = λ f. refl;
  hands = refl;
  elsewhere = tt;
}
quiet l (At.Join slab rest at) is = record {
  guards = refl;
  guards' = λ f. refl;
  bins = refl;
  bins' = λ f. refl;
  queue = refl;
  queue' = λ s. refl;
  jobs = refl;
  jobs' = λ f. refl;
  desks = refl;
  cached = refl;
  last = refl;
  notes = λ f. refl;
  changes = λ f. refl;
  hands = refl;
  elsewhere = tt;
}
quiet l (At.Spare at) is = record {
  guards = refl;
  guards' = λ f. refl;
  bins = refl;
  bins' = λ f. refl;
  queue = refl;
  queue' = λ s. refl;
  jobs = refl;
  jobs' = λ f. refl;
  desks = refl;
  cached = refl;
  last = refl;
  notes = λ f. refl;
  changes = λ f. refl;
  hands = refl;
  elsewhere = tt;
}
quiet l (At.Leave slab at) is = record {
  guards = refl;
  guards' = λ f. refl;
  bins = refl;
  bins' = λ f. refl;
  queue = refl;
  queue' = λ s. refl;
  jobs = refl;
  jobs' = λ f. refl;
  desks = refl;
  cached = refl;
  last = refl;
  notes = λ f. refl;
  changes = λ f. refl;
  hands = refl;
  elsewhere = tt;
}
quiet l _ is = absurd is

-- what steps with mail leave of their seat as it is
pub record Stays (w later : Whole) (seat : ℕ) : Type 0 where
  pub guards : later.pool.tasks seat ≡ w.pool.tasks seat
  pub bins : later.bins seat ≡ w.bins seat
  pub queue : later.queue seat ≡ w.queue seat
  pub jobs : later.jobs seat ≡ w.jobs seat
  pub desks : later.desks seat ≡ w.desks seat
  pub office : later.office ≡ w.office
  pub cached : later.pool.cached seat ≡ w.pool.cached seat
  pub last : later.pool.locals.lasts seat ≡ w.pool.locals.lasts seat
  pub notes : later.pool.locals.notes seat ≡ w.pool.locals.notes seat

-- what they are to leave to do, and of the heap
pub record Does (later : Whole) (seat : ℕ) (l : Local) (f : ℕ) : Type 0 where
  pub mails : later.mails seat ≡ mail_left l f
  pub orphans : later.tasks seat ≡ orphan_left l f
  pub kept : later.pool.kept seat ≡ kept_left l f
  pub spares : later.spares seat ≡ spares_left l f

pub free : (k : Key) (w : Whole) (l : Local) → IsMailAt l.at → SeatTied k w l.seat l → IsFree w l.seat
free k w l is tied =
    let off = quiet l l.at is in
    record {
      shelf = ap (λ t. hand t) (tied.tasks.jobs ∙ off.jobs);
      queue = subst (λ t. IsIdle t) (sym (tied.tasks.queue ∙ off.queue)) tt;
    }

-- nothing is in hand, and nothing comes into it
hands_stay : (k : Key) (w : Whole) (l : Local) (place : ℕ → Place) (drained : List ℕ) → IsMailAt l.at
    → SeatTied k w l.seat l → Suits k l (seen_in w l) → HandsTied place drained l.seat (hands_of (next_in w l))
hands_stay k w l place drained is tied suits =
    let off = quiet l l.at is in
    let s = seen_in w l in
    let leads = turns_change_hands l s tied.says.hands suits.step in
    let stay : hands_of (next_in w l) ≡ hands_of l =
    subst (λ changes. HandsLead changes (hands_of l) (hands_of (next_in w l))) (off.changes (word_seen s)) leads in
    subst (λ hands. HandsTied place drained l.seat hands) (sym (stay ∙ off.hands))
    (record { lie = tt; once = tt; apart = tt })

-- the same whole, but for what the seat does with objects
abbrev with_task : objects.Task → Whole → Whole
with_task task w =
    record w { pool = record w.pool { locals = record w.pool.locals { tasks = λ other. task } } }

notes_by_all_else : (task : objects.Task) (w : Whole) (seat : ℕ) (notes : List Note)
    → NotesHere (with_task task w) seat notes → NotesHere w seat notes
notes_by_all_else task w seat notes (NotesHere.are e) = NotesHere.are e
notes_by_all_else task w seat notes (NotesHere.forgets tail free) =
    NotesHere.forgets tail (record { shelf = free.shelf; queue = free.queue })

-- where all else is left as the rows have it, all but what the seat does with objects is there
left_here : (k : Key) (w later : Whole) (l : Local) → IsMailAt l.at → SeatTied k w l.seat l
    → has_word (course l) ≡ true → Suits k l (seen_in w l) → Stays w later l.seat → Does later l.seat l (found_in w l)
    → StateHere k (with_task (task_left l (word_seen (seen_in w l))) later) l.seat (next_in w l)
left_here k w later l is tied word suits stays does =
    let off = quiet l l.at is in
    let s = seen_in w l in
    let f : ℕ = found_in w l in
    let same : word_seen s ≡ f = told (course l) w.pool.mem in
    seats_left_are_here k (with_task (task_left l (word_seen s)) later) l.seat l s tied.says suits (record {
      tasks = record {
        guards = stays.guards ∙ tied.tasks.guards ∙ off.guards ∙ sym (off.guards' (word_seen s));
        bins = stays.bins ∙ tied.tasks.bins ∙ off.bins ∙ sym (off.bins' (word_seen s));
        queue = stays.queue ∙ tied.tasks.queue ∙ off.queue ∙ sym (off.queue' s);
        objects = refl;
        mails = does.mails ∙ ap (mail_left l) (sym same);
        orphans = does.orphans ∙ ap (orphan_left l) (sym same);
        jobs = stays.jobs ∙ tied.tasks.jobs ∙ off.jobs ∙ sym (off.jobs' (word_seen s));
        desks = may_start (stays.desks ∙ tied.tasks.desks ∙ off.desks) (turns_start_desks l f word off.desks);
      };
      heap = record {
        kept = does.kept ∙ ap (kept_left l) (sym same);
        cached = stays.cached ∙ tied.heap.cached ∙ sym off.cached;
        spares = does.spares ∙ ap (spares_left l) (sym same);
        last = stays.last ∙ tied.heap.last ∙ sym off.last;
      };
      notes = stays.notes ∙ tied.notes ∙ sym (ap (λ added. added ++ notes_of l) (off.notes (word_seen s)));
    }) (hands_stay k w l later.pool.blocks.place (later.drained l.seat) is tied suits)
    (nothing_is_said_elsewhere (with_task (task_left l (word_seen s)) later) l.seat l s off.elsewhere).words

-- what the seat does with objects, at the next position
abbrev pub ObjectsHere : Whole → Whole → Local → Type 0
ObjectsHere w later l = Here (later.pool.locals.tasks l.seat) (object_task_of (next_in w l)) objects.Task.Away
    (Starts (next_in w l))

pub leads : (k : Key) (w : Whole) (l : Local) → IsMailAt l.at → SeatTied k w l.seat l
    → has_word (course l) ≡ true → Suits k l (seen_in w l) → (later : Whole) → SeatRun k l.seat w later
    → later.pool.mem ≡ after k w.pool.mem (course l) → Stays w later l.seat → Does later l.seat l (found_in w l)
    → ObjectsHere w later l → StepLeaves k w l
leads k w l is tied word suits later run words stays does here =
    let h = left_here k w later l is tied word suits stays does in
    record {
      later = later;
      run = run;
      words = words;
      office = stays.office ∙ sym (elsewhere_leaves_office l l.at w.office (quiet l l.at is).desks);
      here = record {
        says = h.says;
        tasks = record {
          guards = h.tasks.guards;
          bins = h.tasks.bins;
          queue = h.tasks.queue;
          objects = here;
          mails = h.tasks.mails;
          orphans = h.tasks.orphans;
          jobs = h.tasks.jobs;
          desks = h.tasks.desks;
        };
        heap = record {
          kept = h.heap.kept;
          cached = h.heap.cached;
          spares = h.heap.spares;
          last = h.heap.last;
        };
        notes = notes_by_all_else _ later l.seat (notes_of (next_in w l)) h.notes;
        hands = h.hands;
        words = (nothing_is_said_elsewhere later l.seat l (seen_in w l) (quiet l l.at is).elsewhere).words;
      };
    }

-- so is what it does with objects, where the rows leave that too
pub leads_on : (k : Key) (w : Whole) (l : Local) → IsMailAt l.at → SeatTied k w l.seat l
    → has_word (course l) ≡ true → Suits k l (seen_in w l) → (later : Whole) → SeatRun k l.seat w later
    → later.pool.mem ≡ after k w.pool.mem (course l) → Stays w later l.seat → Does later l.seat l (found_in w l)
    → later.pool.locals.tasks l.seat ≡ task_left l (found_in w l) → StepLeaves k w l
leads_on k w l is tied word suits later run words stays does left =
    let h = left_here k w later l is tied word suits stays does in
    let next : Local = next_in w l in
    let same : word_seen (seen_in w l) ≡ found_in w l = told (course l) w.pool.mem in
    leads k w l is tied word suits later run words stays does
    (subst (λ have. Here have (object_task_of next) objects.Task.Away (Starts next))
    (ap (task_left l) same ∙ sym left) h.tasks.objects)

-- a turn of a seat that is tied and suits
abbrev pub LeadsOn : Key → Whole → Local → Type 0
LeadsOn k w l = SeatTied k w l.seat l → has_word (course l) ≡ true → Suits k l (seen_in w l) → StepLeaves k w l
