-- A pool with its bins and its queue: its words, and what they stand for to the laws of blocks, of bins and of the
-- queue, all at once.
use Rattle.std.specs.Prelude.{◌≡◌, ℕ, List, ⊤}
use Rattle.pool_words.specs.declared.words.Key.{Key}
use Rattle.backend_bins.specs.Blocks.{bin_of}
use Rattle.guard_laws.specs.Blocks as guards
use Rattle.bin_laws.specs.Bins as bins
use Rattle.bin_laws.specs.Bins.{Member, BinGood}
use Rattle.bin_laws.specs.Steps.{IsReady}
use Rattle.queue_laws.specs.Queue as queues
use Rattle.queue_laws.specs.Queue.{QueueGood}
use Rattle.use_laws.specs.Pools.{Pool, PoolGood}

pub record Space : Type 0 where
  pub pool : Pool
  -- of each bin the blocks that its list has, and of each block whether it is in one
  pub items : ℕ → List ℕ
  pub member : ℕ → Member
  -- the blocks in the queue, and of each seat what it took of them and has not yet begun to put
  pub queued : List ℕ
  pub drained : ℕ → List ℕ
  -- of each seat what it does with bins, and with the queue
  pub bins : ℕ → bins.Task
  pub queue : ℕ → queues.Task

-- what the laws of bins see
abbrev pub bins_of : Space → bins.Shadow
bins_of s = record { guards = s.pool.blocks; items = s.items; member = s.member }

abbrev pub bin_tasks : Space → bins.Locals
bin_tasks s = record { guards = s.pool.tasks; bins = s.bins }

-- what those of the queue see
abbrev pub queue_of : Space → queues.Shadow
queue_of s = record { guards = s.pool.blocks; queued = s.queued; drained = s.drained }

abbrev pub queue_tasks : Space → queues.Locals
queue_tasks s = record { guards = s.pool.tasks; queue = s.queue }

-- a seat wins a block in no bin's lock, or in that of the block's bin; and it offers a block in that alone
abbrev pub LockFits : guards.Task → bins.Task → Type 0
LockFits guards.Task.Away bin = ⊤
LockFits (guards.Task.Wins c at) bin = IsReady c.granules bin
LockFits (guards.Task.Offers first granules) bin = bin ≡ bins.Task.Has (bin_of granules)

-- a seat that puts a block into the queue is at no guard, and in no bin
abbrev pub QueueFits : guards.Task → bins.Task → queues.Task → Type 0
QueueFits guard bin queues.Task.Away = ⊤
QueueFits guard bin (queues.Task.Queues first granules at) = (guard ≡ guards.Task.Away) × (bin ≡ bins.Task.Away)
QueueFits guard bin (queues.Task.Drains rest) = ⊤

-- what one seat does with guards, with bins and with the queue is of one position
pub record SeatFits (guard : guards.Task) (bin : bins.Task) (task : queues.Task) : Type 0 where
  pub lock : LockFits guard bin
  pub queue : QueueFits guard bin task

abbrev pub SeatsFit : Space → Type 0
SeatsFit s = (t : ℕ) → SeatFits (s.pool.tasks t) (s.bins t) (s.queue t)

pub record FreeGood (k : Key) (s : Space) : Type 0 where
  pub pool : PoolGood k s.pool
  pub bins : BinGood k (bins_of s) s.pool.mem (bin_tasks s)
  pub queue : QueueGood k (queue_of s) s.pool.mem (queue_tasks s)
  pub seats : SeatsFit s
