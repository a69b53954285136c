-- Each turn at the emptying of the queue is steps of the whole.
use Rattle.std.proofs.Common.{◌≡◌, ◌∙◌, ◌<◌, ◌≤◌, ℕ, true, List, [], ◌∷◌, refl, ap, sym, subst, arith}
use Rattle.std.specs.Prelude.{Option, Some, None}
use Rattle.pool_words.specs.declared.words.Key.{Key}
use Rattle.pool_words.specs.declared.words.Word.{Word}
use Rattle.pool_words.specs.declared.actions.Action.{Action}
use Rattle.pool_words.specs.declared.actions.Action.TheVariants.{Load, Swap}
use Rattle.pool_words.specs.Actions.{word_seen}
use Rattle.word_codes.specs.Links.{link_of}
use Rattle.word_codes.specs.QueueLinks.{queue_link_of}
use Rattle.coalescer.specs.declared.drain.DrainAt.{DrainAt}
use Rattle.coalescer.specs.declared.put.PutAt.{PutAt}
use Rattle.coalescer.specs.declared.put.PutCall.{PutCall}
use Rattle.coalescer.specs.declared.put.PutNext.{PutNext}
use Rattle.coalescer.specs.declared.put.PutStep.{PutStep}
use Rattle.coalescer.specs.Drain.{goes_on, put_call as drained_put, put_goes}
use Rattle.coalescer.specs.Put.{put_learn}
use Rattle.word_laws.specs.Memory.{found}
use Rattle.guard_laws.specs.Blocks as blocks
use Rattle.guard_laws.specs.Blocks.{Place, Use}
use Rattle.guard_laws.specs.Steps.{shadow_drained}
use Rattle.chain_laws.specs.Chains.{Leads, Link, tally}
use Rattle.chain_laws.specs.Pushing.{links_of}
use Rattle.chain_laws.proofs.CallerLemmas.{chains_have_no_repeats, tally-here}
use Rattle.bin_laws.specs.Bins as binning
use Rattle.queue_laws.specs.Queue as line_laws
use Rattle.queue_laws.specs.Queue.{queue_words, rest_of}
use Rattle.queue_laws.specs.Steps.{behind}
use Rattle.cache_laws.specs.Good.{hand as hand_of_job}
use Rattle.step_local.specs.declared.frames.At.{At}
use Rattle.step_local.specs.declared.frames.Local.{Local}
use Rattle.step_local.specs.Backend.{drain_call, drained_as}
use Rattle.step_local.specs.Course.{course}
use Rattle.step_runs.specs.Places.{has_word}
use Rattle.backend_tasks.specs.Bins.{put_task_left}
use Rattle.backend_tasks.specs.Fits.{PutFits}
use Rattle.backend_tasks.specs.Guards.{put_guard_left}
use Rattle.backend_tasks.specs.Queue.{drained, drained_by}
use Rattle.hand_blocks.specs.Changes.{HandsLead}
use Rattle.hand_blocks.specs.Hands.{Hand, hands_of}
use Rattle.hand_blocks.proofs.CallerLemmas.{turns_change_hands}
use Rattle.pool_laws.specs.Wholes.{Whole, WholeGood}
use Rattle.seat_ties.specs.Left.{Suits}
use Rattle.seat_ties.specs.Says.{WordsSay}
use Rattle.seat_ties.specs.Ties.{HandsTied, SeatTied}
use Rattle.seat_ties.specs.Turns.{StepLeaves, next_in, seen_in}
use Rattle.put_moves.specs.Laws.{DrainsTurn, IsDrain}
use Rattle.put_moves.proofs.Below.{hands_are_read}
use Rattle.put_moves.proofs.Frame.{LeavesNext, Now, Steps, draining, drains_leave, tasks}
use Rattle.put_moves.proofs.Job.{Before, NextSays, all_changes, found_at, next_at}
use Rattle.put_moves.proofs.Puts.{IsQuietStep, all_held, quiet_turns, told_is}
use Rattle.put_moves.proofs.QueueMoves.{at_queue, ends, reads_link, takes}
use Rattle.put_moves.proofs.Unlinking.{now_later}

-- where a drain ends the words have nothing to say
drained_says : (later : Whole) (l : Local) (at : DrainAt) (rest : Option ℕ)
    → WordsSay later l.seat (drained_as (draining l at) (At.Drain at) (goes_on rest)).0
drained_says later l at (Some first) = tt
drained_says later l at None = tt

put_says : (later : Whole) (l : Local) (rest : Option ℕ) (at : PutAt) (next : PutNext)
    → NextSays later l.seat at at.step next
    → WordsSay later l.seat (drained_as (draining l (DrainAt.Put rest at)) (At.Drain (DrainAt.Put rest at))
    (put_goes rest next)).0
put_says later l rest at (PutNext.Goes q) says = says
put_says later l rest at (PutNext.Waits bin) says = says
put_says later l rest at PutNext.Done says = drained_says later l (DrainAt.Put rest at) rest
put_says later l rest at (PutNext.Gives b) says = says

-- what comes from the queue does not go back to it
quiet_step : (c : PutCall) (step : PutStep) → c.drained ≡ true → PutFits c step → IsQuietStep step
quiet_step c (PutStep.Queue at) drained fits = absurd (let e = fits in cc)
quiet_step c _ drained fits = tt

-- with the last block the drain ends too
ended : (k : Key) (w : Whole) (seat : ℕ) (action : Action) (guard : blocks.Task) (bin : binning.Task)
    (place : ℕ → Place) (gone : List ℕ) (rest : Option ℕ) → (steps : Steps k w seat action
    (tasks guard bin (line_laws.Task.Drains rest)) place gone)
    → Now steps.later seat (tasks guard bin (line_laws.Task.Drains rest))
    → Steps k w seat action (tasks guard bin (drained rest)) place gone
ended k w seat action guard bin place gone (Some first) steps now = steps
ended k w seat action guard bin place gone None steps now =
    ends k w seat action (tasks guard bin (line_laws.Task.Drains None)) place gone steps refl now

put_ended : (k : Key) (w : Whole) (seat : ℕ) (action : Action) (guard : blocks.Task) (bin : binning.Task)
    (place : ℕ → Place) (gone : List ℕ) (rest : Option ℕ) (next : PutNext) → (steps : Steps k w seat action
    (tasks guard bin (line_laws.Task.Drains rest)) place gone)
    → Now steps.later seat (tasks guard bin (line_laws.Task.Drains rest))
    → Steps k w seat action (tasks guard bin (drained_by rest next)) place gone
put_ended k w seat action guard bin place gone rest (PutNext.Goes q) steps now = steps
put_ended k w seat action guard bin place gone rest (PutNext.Waits b) steps now = steps
put_ended k w seat action guard bin place gone rest PutNext.Done steps now =
    ended k w seat action guard bin place gone rest steps now
put_ended k w seat action guard bin place gone rest (PutNext.Gives b) steps now = steps

module _ (k : Key) (w : Whole) (l : Local) (rest : Option ℕ) (at : PutAt) (good : WholeGood k w) where
  abbrev lo : Local
  lo = draining l (DrainAt.Put rest at)

  abbrev c : PutCall
  c = drained_put (drain_call lo)

  abbrev line : line_laws.Task
  line = line_laws.Task.Drains rest

  before : (tied : SeatTied k w l.seat lo) → (suits : Suits k lo (seen_in w lo))
      → Before k w c at at.step line (hands_of lo) (hands_of (next_in w lo))
  before tied suits = record {
    good = good;
    now = record {
      guards = tied.tasks.guards;
      bins = tied.tasks.bins;
      queue = tied.tasks.queue;
      jobs = ap (λ t. hand_of_job t) tied.tasks.jobs;
    };
    tied = tied.hands;
    each = all_held w.pool.blocks.place (w.drained l.seat) l.seat (hands_of lo) tied.hands.lie tied.hands.apart;
    says = tied.words;
    fits = tied.says.backend;
    joins = tied.says.hands.1;
    wins = suits.step.seen;
    leads = subst (λ g. HandsLead (all_changes c at at.step g) (hands_of lo) (hands_of (next_in w lo)))
        (told_is w.pool.mem (course lo)) (turns_change_hands lo (seen_in w lo) tied.says.hands suits.step);
  }

  put_drained : (tied : SeatTied k w l.seat lo) → Suits k lo (seen_in w lo) → LeavesNext k w lo
  put_drained tied suits =
      let b = before tied suits in
      let a = quiet_turns k w c at at.step line (hands_of lo) (hands_of (next_in w lo)) tt
      (quiet_step c at.step refl tied.says.backend) b in
      let f = found_at w c at at.step in
      let told : word_seen (seen_in w lo) ≡ f = told_is w.pool.mem (course lo) in
      let now = now_later k w l.seat (course lo) _ _ a.place' (w.drained l.seat) b.now a.steps in
      record {
        place' = a.place';
        gone = w.drained l.seat;
        steps = subst (λ g. Steps k w l.seat (course lo)
            (tasks (put_guard_left at at.step g) (put_task_left c at at.step g)
            (drained_by rest (put_learn c at g))) a.place' (w.drained l.seat)) (sym told)
            (put_ended k w l.seat (course lo) _ _ a.place' (w.drained l.seat) rest (next_at w c at at.step) a.steps now);
        hands = a.hands;
        says = λ later words settled place. subst (λ g. WordsSay later l.seat
            (drained_as lo (At.Drain (DrainAt.Put rest at)) (put_goes rest (put_learn c at g))).0) (sym told)
            (put_says later l rest at (next_at w c at at.step)
            (a.says later (record { words = words; settled = settled; place = place })));
      }

-- the queue is taken
taken_lead : (first : Option ℕ) (was is : List Hand) → HandsLead [] was is → was ≡ [] → is ≡ []
taken_lead first was is leads none = leads ∙ none

module _ (k : Key) (w : Whole) (l : Local) (good : WholeGood k w) where
  abbrev swapping : Local
  swapping = draining l DrainAt.Swap

  abbrev head : ℕ
  head = found w.pool.mem (Swap Word.Queue 0)

  swap_now : SeatTied k w l.seat swapping → Now w l.seat (at_queue binning.Task.Away line_laws.Task.Away)
  swap_now tied = record {
    guards = tied.tasks.guards;
    bins = tied.tasks.bins;
    queue = tied.tasks.queue;
    jobs = ap (λ t. hand_of_job t) tied.tasks.jobs;
  }

  swapped : (tied : SeatTied k w l.seat swapping) → Suits k swapping (seen_in w swapping) → LeavesNext k w swapping
  swapped tied suits =
      let place' = (shadow_drained l.seat w.pool.blocks).place in
      let now = swap_now tied in
      let steps = takes k w l.seat binning.Task.Away now in
      let led : hands_of (next_in w swapping) ≡ [] =
      turns_change_hands swapping (seen_in w swapping) tied.says.hands suits.step in
      record {
        place' = place';
        gone = w.queued;
        steps = ended k w l.seat (Swap Word.Queue 0) blocks.Task.Away binning.Task.Away place' w.queued (link_of head)
            steps (now_later k w l.seat (Swap Word.Queue 0) _ _ place' w.queued now steps);
        hands = subst (HandsTied place' w.queued l.seat) (sym led) (record { lie = tt; once = tt; apart = tt });
        says = λ later words settled place. drained_says later l DrainAt.Swap (link_of head);
      }

-- the first block of what was taken is in hand by itself once its link is read
first_of : (links : ℕ → Link) (first : ℕ) (xs : List ℕ) → Leads links (Link.To first) xs (Link.Ends 0)
    → xs ≡ first ∷ behind xs
first_of links first [] leads = absurd (cc)
first_of links first (x ∷ xs) leads = cc

once_behind : (first : ℕ) (xs : List ℕ) → tally first (first ∷ xs) ≤ 1 → tally first xs ≡ 0
once_behind first xs once = let here = tally-here first xs in omega arith

some_here : (first : ℕ) (xs : List ℕ) → 0 < tally first (first ∷ xs)
some_here first xs = let here = tally-here first xs in omega arith

module _ (k : Key) (w : Whole) (l : Local) (first : ℕ) (good : WholeGood k w) where
  abbrev linking : Local
  linking = draining l (DrainAt.Link first)

  abbrev word : ℕ
  word = found w.pool.mem (Load (Word.QueueLink first))

  chain : SeatTied k w l.seat linking → Leads (links_of queue_words w.pool.mem) (Link.To first) (w.drained l.seat)
      (Link.Ends 0)
  chain tied = subst (λ t. Leads (links_of queue_words w.pool.mem) (rest_of t) (w.drained l.seat) (Link.Ends 0))
      tied.tasks.queue (good.free.queue.drains l.seat)

  linked : (tied : SeatTied k w l.seat linking) → Suits k linking (seen_in w linking) → LeavesNext k w linking
  linked tied suits =
      let place = w.pool.blocks.place in
      let rest = behind (w.drained l.seat) in
      let is : w.drained l.seat ≡ first ∷ rest =
      first_of (links_of queue_words w.pool.mem) first (w.drained l.seat) (chain tied) in
      let once = subst (λ xs. tally first xs ≤ 1) is
      (chains_have_no_repeats (links_of queue_words w.pool.mem) (Link.To first) (w.drained l.seat) 0 (chain tied)
      first) in
      let held = good.free.queue.drained_is l.seat first (subst (λ xs. 0 < tally first xs) (sym is)
      (some_here first rest)) in
      let now : Now w l.seat (at_queue binning.Task.Away (line_laws.Task.Drains (Some first))) = record {
        guards = tied.tasks.guards;
        bins = tied.tasks.bins;
        queue = tied.tasks.queue;
        jobs = ap (λ t. hand_of_job t) tied.tasks.jobs;
      } in
      let led = turns_change_hands linking (seen_in w linking) tied.says.hands suits.step in
      record {
        place' = place;
        gone = rest;
        steps = reads_link k w l.seat first binning.Task.Away now;
        hands = subst (HandsTied place rest l.seat) (sym led.2)
            (hands_are_read place rest l.seat first (queue_link_of word).granules (hands_of linking) led.0
            (subst (λ xs. HandsTied place xs l.seat (hands_of linking)) is tied.hands) (once_behind first rest once) held
            led.1);
        says = λ later words settled place'. tt;
      }

drain_at : (k : Key) (w : Whole) (l : Local) (at : DrainAt) → WholeGood k w → SeatTied k w l.seat (draining l at)
    → Suits k (draining l at) (seen_in w (draining l at)) → LeavesNext k w (draining l at)
drain_at k w l DrainAt.Swap good tied suits = swapped k w l good tied suits
drain_at k w l (DrainAt.Link first) good tied suits = linked k w l first good tied suits
drain_at k w l (DrainAt.Put rest at) good tied suits = put_drained k w l rest at good tied suits

drain_of : (l : Local) → IsDrain l.at → (at : DrainAt) × (l.at ≡ At.Drain at)
drain_of l there = by l.at there
  where
    by : (a : At) → IsDrain a → (at : DrainAt) × (a ≡ At.Drain at)
    by (At.Drain at) there = (at, refl)
    by _ there = absurd there

pub drains_turn : DrainsTurn
drains_turn k w l good tied calm word suits there =
    let is = drain_of l there in
    let same : draining l is.0 ≡ l = ap (λ (a : At). record l { at = a }) (sym is.1) in
    subst (λ m. SeatTied k w m.seat m → has_word (course m) ≡ true → Suits k m (seen_in w m) → StepLeaves k w m) same
    (λ t h s. drains_leave k w l is.0 t h s (drain_at k w l is.0 good t s)) tied word suits
