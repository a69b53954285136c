-- What each granule lies in, and what each block is: one thing, and none of the others.
use Rattle.std.specs.Prelude.{◌≡◌, ◌⊎◌, ℕ, ◌+◌, ◌<◌, ◌≤◌}
use Rattle.backend_bins.specs.Blocks.{bin_of}
use Rattle.guards.specs.declared.win.Taking.{Taking}
use Rattle.chain_laws.specs.Chains.{tally}
use Rattle.guard_laws.specs.Blocks.{Use, Place, Piece}
use Rattle.bin_laws.specs.Bins.{won_of}
use Rattle.bin_laws.specs.Laws.{IsListed, IsComing}
use Rattle.queue_laws.specs.Laws.{IsQueuedOnce}
use Rattle.use_laws.specs.Laws.{IsBareBlock, IsSlabBlock, IsObjectBlock, IsShelvedBlock}
use Rattle.free_laws.specs.Spaces.{Space, bins_of, bin_tasks, queue_of}

-- in no bin's list; not in the queue, nor in what a seat took of it
abbrev pub IsUnlisted : Space → ℕ → Type 0
IsUnlisted s x = (b : ℕ) → tally x (s.items b) ≡ 0

pub record IsUnqueued (s : Space) (x : ℕ) : Type 0 where
  pub queue : tally x s.queued ≡ 0
  pub taken : (seat : ℕ) → tally x (s.drained seat) ≡ 0

-- at rest: a slab's, one large object's, or in the cache
pub record RestsOnly (s : Space) (x n : ℕ) : Type 0 where
  pub purpose : IsSlabBlock s.pool x n ⊎ IsObjectBlock s.pool x n ⊎ IsShelvedBlock s.pool x n
  pub lists : IsUnlisted s x
  pub queues : IsUnqueued s x

-- in a bin: once in its bin's list, or the one seat that has the lock is about to link it there
pub record BinnedOnly (s : Space) (x n : ℕ) : Type 0 where
  pub listed : IsListed (bins_of s) x n ⊎ IsComing (bins_of s) (bin_tasks s) x n
  pub queues : IsUnqueued s x
  pub bare : IsBareBlock s.pool x n

-- queued: once in the queue's chain
pub record QueuedOnly (s : Space) (x n : ℕ) : Type 0 where
  pub once : IsQueuedOnce (queue_of s) s.pool.mem x n
  pub lists : IsUnlisted s x
  pub bare : IsBareBlock s.pool x n

-- in a seat's hand: in a list only if this seat has won it and is still to take it out, and in a chain that was taken
-- only if this seat took it
pub record HeldOnly (s : Space) (x n seat : ℕ) (taking : Taking) : Type 0 where
  pub lists : (b : ℕ) → 0 < tally x (s.items b) → (b ≡ bin_of n) × (won_of (s.bins seat) ≡ Piece.Got x n)
  pub queue : tally x s.queued ≡ 0
  pub taken : (other : ℕ) → 0 < tally x (s.drained other) → (other ≡ seat) × (taking ≡ Taking.ToJoin)
  pub bare : IsBareBlock s.pool x n

abbrev pub BlockIs : Space → ℕ → ℕ → Use → Type 0
BlockIs s x n Use.Bin = BinnedOnly s x n
BlockIs s x n (Use.Held seat taking) = HeldOnly s x n seat taking
BlockIs s x n Use.Queued = QueuedOnly s x n
BlockIs s x n Use.Elsewhere = RestsOnly s x n

abbrev pub IsWithin : Space → ℕ → ℕ → ℕ → Use → Type 0
IsWithin s z x n u = (s.pool.blocks.place x ≡ Place.Block x n u) × (x ≤ z) × (z < x + n)

-- the granule lies outside of all regions: in no block
pub record LiesOutside (s : Space) (z : ℕ) : Type 0 where
  pub outside : s.pool.blocks.place z ≡ Place.Outside
  pub none : (x n : ℕ) (u : Use) → IsWithin s z x n u → ⊥

-- or in one block, which is one thing
pub record LiesIn (s : Space) (z : ℕ) : Type 0 where
  pub first : ℕ
  pub granules : ℕ
  pub use' : Use
  pub within : IsWithin s z first granules use'
  pub one : (x n : ℕ) (u : Use) → IsWithin s z x n u → (x ≡ first) × (n ≡ granules) × (u ≡ use')
  pub is : BlockIs s first granules use'
