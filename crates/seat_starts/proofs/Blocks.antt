-- A win begins, and the push of a block that is put.
use Rattle.std.proofs.Common.{◌≡◌, ℕ, refl}
use Rattle.std.specs.Prelude.{None, ⊤}
use Rattle.pool_words.specs.declared.words.Key.{Key}
use Rattle.word_codes.specs.declared.guards.Guard.{Guard}
use Rattle.chain_words.specs.declared.pushing.PushAt.{PushAt}
use Rattle.guards.specs.declared.win.Side.{Side}
use Rattle.guards.specs.declared.win.Taking.{Taking}
use Rattle.guards.specs.declared.win.WinAt.{WinAt}
use Rattle.guards.specs.declared.win.WinCall.{WinCall}
use Rattle.word_laws.specs.Memory.{put}
use Rattle.word_laws.proofs.CallerLemmas.{put_here}
use Rattle.guard_laws.specs.Blocks as guards
use Rattle.guard_laws.specs.Blocks.{Place, Use, edge_of}
use Rattle.guard_laws.specs.Steps.{GuardStep, guard_in}
use Rattle.bin_laws.specs.Bins as bins
use Rattle.bin_laws.specs.Steps.{IsReady}
use Rattle.queue_laws.specs.Queue as queues
use Rattle.queue_laws.specs.Steps.{QueueStep, with_queue}
use Rattle.cache_laws.specs.Good.{hand}
use Rattle.free_laws.specs.Spaces.{queue_of, queue_tasks}
use Rattle.backend_tasks.specs.Queue.{QueueStarts}
use Rattle.pool_laws.specs.Steps.{IsFree, WholeStep}
use Rattle.pool_laws.specs.Wholes.{Whole, space_of}
use Rattle.seat_ties.specs.Says.{AreMarked}
use Rattle.seat_ties.specs.Turns.{Here, goes_on, may_start, SeatRun, stays, steps_on, WinStarts}

pub record WinBegun (k : Key) (w : Whole) (seat : ℕ) (task : guards.Task) : Type 0 where
  pub tasks : ℕ → guards.Task
  pub run : SeatRun k seat w (record w { pool = record w.pool { tasks = tasks } })
  pub are : tasks seat ≡ task

pub same_win : (k : Key) (w : Whole) (seat : ℕ) (task : guards.Task) → w.pool.tasks seat ≡ task → WinBegun k w seat task
same_win k w seat task is = record { tasks = w.pool.tasks; run = stays; are = is }

-- what a win rests on in bins
abbrev pub WinRests : Whole → ℕ → guards.Task → Type 0
WinRests w seat (guards.Task.Wins c at) = IsReady c.granules (w.bins seat) × IsFree w seat
WinRests w seat _ = ⊤

first_win : (k : Key) (w : Whole) (seat : ℕ) (c : WinCall) → IsFree w seat → IsReady c.granules (w.bins seat)
    → guards.CallFits c → w.pool.tasks seat ≡ guards.Task.Away → WinBegun k w seat (guards.Task.Wins c WinAt.First)
first_win k w seat c free ready fits away = record {
  tasks = put w.pool.tasks seat (guards.Task.Wins c WinAt.First);
  run = steps_on stays (WholeStep.guards w.pool.blocks w.pool.mem
      (put w.pool.tasks seat (guards.Task.Wins c WinAt.First)) (GuardStep.begins c away fits) ready free);
  are = put_here w.pool.tasks seat seat (guards.Task.Wins c WinAt.First) refl;
}

pub win_begun : (k : Key) (w : Whole) (seat : ℕ) (task : guards.Task) → WinRests w seat task
    → Here (w.pool.tasks seat) task guards.Task.Away (WinStarts task) → WinBegun k w seat task
win_begun k w seat task rests (goes_on e) = same_win k w seat task e
win_begun k w seat guards.Task.Away rests (may_start away starts) = same_win k w seat guards.Task.Away away
win_begun k w seat (guards.Task.Wins c WinAt.First) rests (may_start away starts) =
    first_win k w seat c rests.1 rests.0 starts.fits away
win_begun k w seat (guards.Task.Wins c WinAt.Second) rests (may_start away starts) = absurd starts.starts
win_begun k w seat (guards.Task.Wins c WinAt.Back) rests (may_start away starts) = absurd starts.starts
win_begun k w seat (guards.Task.Offers first granules) rests (may_start away starts) = absurd starts.starts

pub record PushBegun (k : Key) (w : Whole) (seat : ℕ) (task : queues.Task) : Type 0 where
  pub queue : ℕ → queues.Task
  pub run : SeatRun k seat w (record w { queue = queue })
  pub are : queue seat ≡ task

pub same_push : (k : Key) (w : Whole) (seat : ℕ) (task : queues.Task) → w.queue seat ≡ task → PushBegun k w seat task
same_push k w seat task is = record { queue = w.queue; run = stays; are = is }

-- what a push rests on: the block is in hand, and both its guards say that it is being joined
pub record PushRests (w : Whole) (seat x n : ℕ) : Type 0 where
  pub guards : w.pool.tasks seat ≡ guards.Task.Away
  pub bins : w.bins seat ≡ bins.Task.Away
  pub jobs : hand (w.jobs seat) ≡ None
  pub block : w.pool.blocks.place x ≡ Place.Block x n (Use.Held seat Taking.ToJoin)
  pub marked : AreMarked w.pool.mem x n

abbrev pub QueueRests : Whole → ℕ → queues.Task → Type 0
QueueRests w seat (queues.Task.Queues x n PushAt.Look) = PushRests w seat x n
QueueRests w seat _ = ⊤

both_marked : (w : Whole) (x n : ℕ) → AreMarked w.pool.mem x n → (e : Side)
    → guard_in w.pool.mem e (edge_of e x n) ≡ Guard.Coalescing
both_marked w x n marked Side.Begin = marked.begin
both_marked w x n marked Side.End = marked.end

first_push : (k : Key) (w : Whole) (seat x n : ℕ) → w.queue seat ≡ queues.Task.Away → PushRests w seat x n
    → PushBegun k w seat (queues.Task.Queues x n PushAt.Look)
first_push k w seat x n away rests =
    let task : queues.Task = queues.Task.Queues x n PushAt.Look in
    record {
      queue = put w.queue seat task;
      run = steps_on stays (WholeStep.queue (queue_of (space_of w)) w.pool.mem
          (with_queue seat task (queue_tasks (space_of w)))
          (QueueStep.begins x n away rests.guards rests.block (both_marked w x n rests.marked)) rests.bins rests.jobs);
      are = put_here w.queue seat seat task refl;
    }

pub push_begun : (k : Key) (w : Whole) (seat : ℕ) (task : queues.Task) → QueueRests w seat task
    → Here (w.queue seat) task queues.Task.Away (QueueStarts task) → PushBegun k w seat task
push_begun k w seat task rests (goes_on e) = same_push k w seat task e
push_begun k w seat queues.Task.Away rests (may_start away starts) = same_push k w seat queues.Task.Away away
push_begun k w seat (queues.Task.Queues x n PushAt.Look) rests (may_start away starts) =
    first_push k w seat x n away rests
push_begun k w seat (queues.Task.Queues x n (PushAt.Link found)) rests (may_start away starts) = absurd starts
push_begun k w seat (queues.Task.Queues x n (PushAt.Exchange found)) rests (may_start away starts) = absurd starts
push_begun k w seat (queues.Task.Drains rest) rests (may_start away starts) = absurd starts
