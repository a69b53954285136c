-- Steps on guards, by which no block comes into a bin or the queue, or leaves them.
use Rattle.std.proofs.Common.{ℕ, arith}
use Rattle.pool_words.specs.declared.words.Key.{Key}
use Rattle.pool_words.specs.declared.actions.Action.{Action}
use Rattle.guards.specs.declared.win.Taking.{Taking}
use Rattle.word_laws.specs.Memory.{Mem, after}
use Rattle.guard_laws.specs.Blocks as blocks
use Rattle.guard_laws.specs.Blocks.{Use, Place}
use Rattle.guard_laws.specs.Steps.{GuardStep, IsOtherAction}
use Rattle.bin_laws.specs.Bins.{BinGood}
use Rattle.bin_laws.specs.Steps as bins
use Rattle.bin_laws.specs.Steps.{SameLists, kept_of, BinStep}
use Rattle.bin_laws.proofs.Keeps.{steps_keep_bins}
use Rattle.queue_laws.specs.Queue.{QueueGood}
use Rattle.queue_laws.specs.Steps as queues
use Rattle.queue_laws.specs.Steps.{SameQueue, IsIdle, QueueStep}
use Rattle.queue_laws.proofs.Keeps.{steps_keep_queue}
use Rattle.use_laws.specs.Pools.{Pool, PoolGood}
use Rattle.use_laws.specs.Steps.{SameThings, KeepsUse, PoolStep}
use Rattle.use_laws.proofs.CallerLemmas.{steps_keep_pool}
use Rattle.free_laws.specs.Spaces.{Space, bins_of, bin_tasks, queue_of, queue_tasks, FreeGood}
use Rattle.free_laws.specs.Steps.{with_guards, IsLoose, KeepsFree}
use Rattle.free_laws.proofs.Calm.{IsCalm, calm_same, guards_are_calm}
use Rattle.free_laws.proofs.Seats.{guards_fit}

-- what calm is to bins, and to the queue
pub bins_quiet : (s : Space) (t : ℕ) (place' : ℕ → Place)
    → IsCalm s.pool.blocks.place place' t (λ y. IsLoose s t y)
    → bins.IsQuiet s.pool.blocks.place place' t (kept_of (s.bins t))
bins_quiet s t place' calm = record {
  to = λ x n is. calm.to x n Use.Bin tt is;
  from = λ x n is. calm.from x n Use.Bin tt is;
  hand = λ x n taking kept is. calm.hand x n taking (λ loose. loose.listed n kept) is;
}

pub queue_quiet : (s : Space) (t : ℕ) (place' : ℕ → Place)
    → IsCalm s.pool.blocks.place place' t (λ y. IsLoose s t y)
    → queues.IsQuiet s.pool.blocks.place place' t (s.drained t)
queue_quiet s t place' calm = record {
  to = λ x n is. calm.to x n Use.Queued tt is;
  from = λ x n is. calm.from x n Use.Queued tt is;
  hand = λ x n some is. calm.hand x n Taking.ToJoin (λ loose. let none = loose.taken in omega arith) is;
}

-- bins, and the queue, after a calm step on guards
pub bins_as : (k : Key) (t : ℕ) (s : Space) (h : blocks.Shadow) (m' : Mem) (tasks : ℕ → blocks.Task)
    → GuardStep k t s.pool.blocks s.pool.mem s.pool.tasks h m' tasks
    → IsCalm s.pool.blocks.place h.place t (λ y. IsLoose s t y) → SameLists s.pool.mem m'
    → BinGood k (bins_of s) s.pool.mem (bin_tasks s)
    → BinGood k (bins_of (with_guards h m' tasks s)) m' (bin_tasks (with_guards h m' tasks s))
bins_as k t s h m' tasks step calm same good = steps_keep_bins k t (bins_of s) s.pool.mem (bin_tasks s)
    (bins_of (with_guards h m' tasks s)) m' (bin_tasks (with_guards h m' tasks s)) good
    (BinStep.guards h m' tasks step (bins_quiet s t h.place calm) same)

pub queue_as : (k : Key) (t : ℕ) (s : Space) (h : blocks.Shadow) (m' : Mem) (tasks : ℕ → blocks.Task)
    → GuardStep k t s.pool.blocks s.pool.mem s.pool.tasks h m' tasks
    → IsCalm s.pool.blocks.place h.place t (λ y. IsLoose s t y) → IsIdle (s.queue t) → SameQueue s.pool.mem m'
    → QueueGood k (queue_of s) s.pool.mem (queue_tasks s)
    → QueueGood k (queue_of (with_guards h m' tasks s)) m' (queue_tasks (with_guards h m' tasks s))
queue_as k t s h m' tasks step calm idle same good = steps_keep_queue k t (queue_of s) s.pool.mem (queue_tasks s)
    (queue_of (with_guards h m' tasks s)) m' (queue_tasks (with_guards h m' tasks s)) good
    (QueueStep.guards h m' tasks step idle (queue_quiet s t h.place calm) same)

pub guards_keep : (k : Key) (t : ℕ) (s : Space) (h : blocks.Shadow) (m' : Mem) (tasks : ℕ → blocks.Task)
    → (step : GuardStep k t s.pool.blocks s.pool.mem s.pool.tasks h m' tasks)
    → KeepsUse k t s.pool.blocks s.pool.mem s.pool.tasks h m' tasks step → KeepsFree k t s h m' tasks step
    → IsIdle (s.queue t) → SameThings s.pool.mem m' → SameLists s.pool.mem m' → SameQueue s.pool.mem m'
    → FreeGood k s → FreeGood k (with_guards h m' tasks s)
guards_keep k t s h m' tasks step use' keeps idle things lists queue good =
    let calm = guards_are_calm k t s h m' tasks step keeps good.pool.guards in record {
      pool = steps_keep_pool k t s.pool (with_guards h m' tasks s).pool good.pool
          (PoolStep.guards h m' tasks step use' things);
      bins = bins_as k t s h m' tasks step calm lists good.bins;
      queue = queue_as k t s h m' tasks step calm idle queue good.queue;
      seats = guards_fit k t s h m' tasks step keeps idle good.seats;
    }

-- a step on a word of none but one group
pub pool_other : (k : Key) (t : ℕ) (p : Pool) (action : Action) → IsOtherAction action
    → SameThings p.mem (after k p.mem action) → PoolGood k p
    → PoolGood k (record p { mem = after k p.mem action; blocks = p.blocks; tasks = p.tasks })
pool_other k t p action other same good = steps_keep_pool k t p
    (record p { mem = after k p.mem action; blocks = p.blocks; tasks = p.tasks }) good
    (PoolStep.guards p.blocks (after k p.mem action) p.tasks (GuardStep.others action other) tt same)

pub bins_other : (k : Key) (t : ℕ) (s : Space) (action : Action) → IsOtherAction action
    → SameLists s.pool.mem (after k s.pool.mem action) → BinGood k (bins_of s) s.pool.mem (bin_tasks s)
    → BinGood k (bins_of s) (after k s.pool.mem action) (bin_tasks s)
bins_other k t s action other same good = bins_as k t s s.pool.blocks (after k s.pool.mem action) s.pool.tasks
    (GuardStep.others action other) (calm_same s.pool.blocks.place t (λ y. IsLoose s t y)) same good

pub queue_other : (k : Key) (t : ℕ) (s : Space) (action : Action) → IsOtherAction action → IsIdle (s.queue t)
    → SameQueue s.pool.mem (after k s.pool.mem action) → QueueGood k (queue_of s) s.pool.mem (queue_tasks s)
    → QueueGood k (queue_of s) (after k s.pool.mem action) (queue_tasks s)
queue_other k t s action other idle same good = queue_as k t s s.pool.blocks (after k s.pool.mem action) s.pool.tasks
    (GuardStep.others action other) (calm_same s.pool.blocks.place t (λ y. IsLoose s t y)) idle same good
