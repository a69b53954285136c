-- Each turn at the put of a block is steps of the whole.
use Rattle.std.proofs.Common.{◌≡◌, ℕ, true, List, [], ◌∷◌, refl, ap, sym, subst}
use Rattle.std.specs.Prelude.{⊤}
use Rattle.pool_words.specs.declared.words.Key.{Key}
use Rattle.pool_words.specs.declared.actions.Action.{Action}
use Rattle.pool_words.specs.declared.actions.Action.TheVariants.{Load, Store, Swap, Exchange, Add, TakeOffice}
use Rattle.pool_words.specs.declared.actions.Action.TheVariants.{GiveOffice, Nothing}
use Rattle.pool_words.specs.Actions.{word_seen}
use Rattle.coalescer.specs.declared.put.PutAt.{PutAt}
use Rattle.coalescer.specs.declared.put.PutCall.{PutCall}
use Rattle.coalescer.specs.declared.put.PutNext.{PutNext}
use Rattle.coalescer.specs.declared.put.PutStep.{PutStep}
use Rattle.coalescer.specs.Put.{put_learn}
use Rattle.word_laws.specs.Memory.{Mem, found}
use Rattle.guard_laws.specs.Blocks.{Place}
use Rattle.queue_laws.specs.Queue as line_laws
use Rattle.queue_laws.specs.Steps.{IsIdle}
use Rattle.cache_laws.specs.Good.{hand as hand_of_job}
use Rattle.step_local.specs.declared.frames.At.{At}
use Rattle.step_local.specs.declared.frames.Local.{Local}
use Rattle.step_local.specs.Backend.{put_as}
use Rattle.step_local.specs.Course.{course}
use Rattle.step_local.specs.Leaving.{put_call}
use Rattle.step_runs.specs.Entries.{seen_by}
use Rattle.step_runs.specs.Places.{has_word}
use Rattle.backend_tasks.specs.Bins.{put_task_left}
use Rattle.backend_tasks.specs.Guards.{put_guard_left}
use Rattle.backend_tasks.specs.Queue.{put_queue, put_queue_left}
use Rattle.backend_tasks.proofs.CallerLemmas.{bare-put_done}
use Rattle.hand_blocks.specs.Changes.{HandsLead}
use Rattle.hand_blocks.specs.Hands.{AllHands, Hand, firsts, hands_of, put_hands_at}
use Rattle.hand_blocks.proofs.CallerLemmas.{all_beside, turns_change_hands}
use Rattle.pool_laws.specs.Wholes.{Whole, WholeGood}
use Rattle.seat_ties.specs.Left.{Suits}
use Rattle.seat_ties.specs.Says.{WordsSay}
use Rattle.seat_ties.specs.Ties.{AreApart, AreInHand, SeatTied}
use Rattle.seat_ties.specs.Turns.{StepLeaves, next_in, seen_in}
use Rattle.seat_ties.proofs.CallerLemmas.{bare_says_nothing}
use Rattle.seat_hands.specs.Laws.{IsOfHands}
use Rattle.put_moves.specs.Laws.{IsPut, PutsTurn}
use Rattle.put_moves.proofs.Binning.{bin_turns}
use Rattle.put_moves.proofs.Frame.{LeavesNext, Steps, putting, puts_leave, tasks}
use Rattle.put_moves.proofs.Job.{After, Before, IsHeld, NextSays, all_changes, found_at, next_at}
use Rattle.put_moves.proofs.Marking.{far_left_turns, far_right_turns, left_turns, left_word_turns, right_word_turns}
use Rattle.put_moves.proofs.Marking.{size_turns}
use Rattle.put_moves.proofs.Queueing.{queue_turns}
use Rattle.put_moves.proofs.Unlinking.{unlink_left_turns, unlink_right_turns}
use Rattle.put_moves.proofs.Winning.{win_left_turns, win_right_turns}

-- a seat is told what its action finds
pub told_is : (m : Mem) (action : Action) → word_seen (seen_by action (found m action)) ≡ found m action
told_is m (Load w) = refl
told_is m (Store w value) = refl
told_is m (Swap w value) = refl
told_is m (Exchange w from to) = refl
told_is m (Add w value) = refl
told_is m (TakeOffice job) = refl
told_is m GiveOffice = refl
told_is m Nothing = refl

-- all that is in hand lies there
pub all_held : (place : ℕ → Place) (drained : List ℕ) (seat : ℕ) (hands : List Hand) → AreInHand place seat hands
    → AreApart drained (firsts hands) → AllHands (IsOfHands place drained seat) hands
all_held place drained seat [] lie apart = tt
all_held place drained seat (one ∷ rest) lie apart =
    (record { lies = lie.0; apart = apart.0 }, all_held place drained seat rest lie.1 apart.1)

-- a put whose block does not go into the queue just then
abbrev pub IsQuietStep : PutStep → Type 0
IsQuietStep (PutStep.Queue at) = ⊥
IsQuietStep _ = ⊤

pub quiet_turns : (k : Key) (w : Whole) (c : PutCall) (p : PutAt) (step : PutStep) (line : line_laws.Task)
    (was is : List Hand) → IsIdle line → IsQuietStep step → Before k w c p step line was is
    → After k w c p step line is
quiet_turns k w c p PutStep.Size line was is idle quiet b = size_turns k w c p line was is idle b
quiet_turns k w c p PutStep.Left line was is idle quiet b = left_turns k w c p line was is idle b
quiet_turns k w c p PutStep.LeftWord line was is idle quiet b = left_word_turns k w c p line was is idle b
quiet_turns k w c p (PutStep.WinLeft g at) line was is idle quiet b = win_left_turns k w c p g at line was is idle b
quiet_turns k w c p (PutStep.UnlinkLeft neighbour at) line was is idle quiet b =
    unlink_left_turns k w c p neighbour at line was is idle b
quiet_turns k w c p PutStep.RightWord line was is idle quiet b = right_word_turns k w c p line was is idle b
quiet_turns k w c p (PutStep.WinRight g at) line was is idle quiet b = win_right_turns k w c p g at line was is idle b
quiet_turns k w c p (PutStep.UnlinkRight neighbour at) line was is idle quiet b =
    unlink_right_turns k w c p neighbour at line was is idle b
quiet_turns k w c p PutStep.FarLeft line was is idle quiet b = far_left_turns k w c p line was is idle b
quiet_turns k w c p PutStep.FarRight line was is idle quiet b = far_right_turns k w c p line was is idle b
quiet_turns k w c p (PutStep.Queue at) line was is idle quiet b = absurd quiet
quiet_turns k w c p (PutStep.Bin at) line was is idle quiet b = bin_turns k w c p line was is idle at b

put_turns : (k : Key) (w : Whole) (c : PutCall) (p : PutAt) (step : PutStep) (was is : List Hand)
    → Before k w c p step (put_queue p step) was is
    → After k w c p step (put_queue_left p step (found_at w c p step)) is
put_turns k w c p PutStep.Size was is b = quiet_turns k w c p PutStep.Size line_laws.Task.Away was is tt tt b
put_turns k w c p PutStep.Left was is b = quiet_turns k w c p PutStep.Left line_laws.Task.Away was is tt tt b
put_turns k w c p PutStep.LeftWord was is b = quiet_turns k w c p PutStep.LeftWord line_laws.Task.Away was is tt tt b
put_turns k w c p (PutStep.WinLeft g at) was is b =
    quiet_turns k w c p (PutStep.WinLeft g at) line_laws.Task.Away was is tt tt b
put_turns k w c p (PutStep.UnlinkLeft neighbour at) was is b =
    quiet_turns k w c p (PutStep.UnlinkLeft neighbour at) line_laws.Task.Away was is tt tt b
put_turns k w c p PutStep.RightWord was is b = quiet_turns k w c p PutStep.RightWord line_laws.Task.Away was is tt tt b
put_turns k w c p (PutStep.WinRight g at) was is b =
    quiet_turns k w c p (PutStep.WinRight g at) line_laws.Task.Away was is tt tt b
put_turns k w c p (PutStep.UnlinkRight neighbour at) was is b =
    quiet_turns k w c p (PutStep.UnlinkRight neighbour at) line_laws.Task.Away was is tt tt b
put_turns k w c p PutStep.FarLeft was is b = quiet_turns k w c p PutStep.FarLeft line_laws.Task.Away was is tt tt b
put_turns k w c p PutStep.FarRight was is b = quiet_turns k w c p PutStep.FarRight line_laws.Task.Away was is tt tt b
put_turns k w c p (PutStep.Queue at) was is b = queue_turns k w c p at was is b
put_turns k w c p (PutStep.Bin at) was is b = quiet_turns k w c p (PutStep.Bin at) line_laws.Task.Away was is tt tt b

-- what the words say where the local goes on
put_says : (later : Whole) (l : Local) (at : PutAt) (next : PutNext) → NextSays later l.seat at at.step next
    → WordsSay later l.seat (put_as (putting l at) at next).0
put_says later l at (PutNext.Goes q) says = says
put_says later l at (PutNext.Waits bin) says = says
put_says later l at PutNext.Done says =
    (bare_says_nothing later l.seat (put_as (putting l at) at PutNext.Done).0 (bare-put_done (putting l at))).words
put_says later l at (PutNext.Gives b) says = says

module _ (k : Key) (w : Whole) (l : Local) (at : PutAt) (good : WholeGood k w)
    (tied : SeatTied k w l.seat (putting l at)) (suits : Suits k (putting l at) (seen_in w (putting l at))) where
  abbrev c : PutCall
  c = put_call (putting l at)

  abbrev f : ℕ
  f = found_at w c at at.step

  told : word_seen (seen_in w (putting l at)) ≡ f
  told = told_is w.pool.mem (course (putting l at))

  leads : HandsLead (all_changes c at at.step f) (hands_of (putting l at)) (hands_of (next_in w (putting l at)))
  leads = subst (λ g. HandsLead (all_changes c at at.step g) (hands_of (putting l at))
      (hands_of (next_in w (putting l at)))) told
      (turns_change_hands (putting l at) (seen_in w (putting l at)) tied.says.hands suits.step)

  before : Before k w c at at.step (put_queue at at.step) (hands_of (putting l at)) (hands_of (next_in w (putting l at)))
  before = record {
    good = good;
    now = record {
      guards = tied.tasks.guards;
      bins = tied.tasks.bins;
      queue = tied.tasks.queue;
      jobs = ap (λ t. hand_of_job t) tied.tasks.jobs;
    };
    tied = tied.hands;
    each = all_beside (IsHeld w l.seat) (putting l at) l.put (put_hands_at at at.step)
        (all_held w.pool.blocks.place (w.drained l.seat) l.seat (hands_of (putting l at)) tied.hands.lie tied.hands.apart);
    says = tied.words;
    fits = tied.says.backend;
    joins = tied.says.hands.1;
    wins = suits.step.seen;
    leads = leads;
  }

  turned : LeavesNext k w (putting l at)
  turned =
      let a = put_turns k w c at at.step (hands_of (putting l at)) (hands_of (next_in w (putting l at))) before in
      record {
        place' = a.place';
        gone = w.drained l.seat;
        steps = subst (λ g. Steps k w l.seat (course (putting l at))
            (tasks (put_guard_left at at.step g) (put_task_left c at at.step g) (put_queue_left at at.step g)) a.place'
            (w.drained l.seat)) (sym told) a.steps;
        hands = a.hands;
        says = λ later words settled place. subst (λ g. WordsSay later l.seat (put_as (putting l at) at (put_learn c at g)).0)
            (sym told) (put_says later l at (next_at w c at at.step)
            (a.says later (record { words = words; settled = settled; place = place })));
      }

put_of : (l : Local) → IsPut l.at → (at : PutAt) × (l.at ≡ At.Put at)
put_of l there = by l.at there
  where
    by : (a : At) → IsPut a → (at : PutAt) × (a ≡ At.Put at)
    by (At.Put at) there = (at, refl)
    by _ there = absurd there

pub puts_turn : PutsTurn
puts_turn k w l good tied calm word suits there =
    let is = put_of l there in
    let same : putting l is.0 ≡ l = ap (λ (a : At). record l { at = a }) (sym is.1) in
    subst (λ m. SeatTied k w m.seat m → has_word (course m) ≡ true → Suits k m (seen_in w m) → StepLeaves k w m) same
    (λ t h s. puts_leave k w l is.0 t h s (turned k w l is.0 good t s)) tied word suits
