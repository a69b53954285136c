-- The steps of a seat: each is one of the pool and, at bins or at the queue, one of these at once. What each rests on
-- is of the seat's own tasks, and of blocks in its own hand.
use Rattle.std.specs.Prelude.{◌≡◌, ◌≢◌, ℕ, ◌+◌, ◌≤◌, ⊤}
use Rattle.pool_words.specs.declared.words.Key.{Key}
use Rattle.pool_words.specs.declared.words.Word.{Word}
use Rattle.pool_words.specs.declared.actions.Action.{Action}
use Rattle.pool_words.specs.declared.actions.Action.TheVariants.{Load, Store, Swap, Exchange, Add}
use Rattle.pool_words.specs.declared.actions.Action.TheVariants.{TakeOffice, GiveOffice, Nothing}
use Rattle.pool_words.specs.Words.{number, kind_of_word}
use Rattle.guards.specs.declared.win.WinNext.{WinNext}
use Rattle.guards.specs.Win.{win_course, win_learn}
use Rattle.backend_bins.specs.Blocks.{bin_of}
use Rattle.word_laws.specs.Memory.{Mem, after, found}
use Rattle.chain_laws.specs.Chains.{tally}
use Rattle.guard_laws.specs.Blocks as blocks
use Rattle.guard_laws.specs.Blocks.{Use, Piece}
use Rattle.guard_laws.specs.Steps.{GuardStep}
use Rattle.bin_laws.specs.Bins.{Task, Shadow, Locals}
use Rattle.bin_laws.specs.Steps.{SameLists, kept_of, IsReady, BinStep}
use Rattle.queue_laws.specs.Queue as queues
use Rattle.queue_laws.specs.Steps.{SameQueue, IsIdle, QueueStep}
use Rattle.use_laws.specs.Pools.{Pool}
use Rattle.use_laws.specs.Steps.{SameThings, KeepsUse, PoolStep}
use Rattle.free_laws.specs.Spaces.{Space, bins_of, bin_tasks, queue_of, queue_tasks}

abbrev pub with_guards : blocks.Shadow → Mem → (ℕ → blocks.Task) → Space → Space
with_guards h m tasks s = record s { pool = record s.pool { mem = m; blocks = h; tasks = tasks } }

abbrev pub with_bins : Shadow → Mem → Locals → Space → Space
with_bins h m l s = record s {
  pool = record s.pool { mem = m; blocks = h.guards; tasks = l.guards };
  items = h.items;
  member = h.member;
  bins = l.bins;
}

abbrev pub with_queue : queues.Shadow → Mem → queues.Locals → Space → Space
with_queue h m l s = record s {
  pool = record s.pool { mem = m; blocks = h.guards; tasks = l.guards };
  queued = h.queued;
  drained = h.drained;
  queue = l.queue;
}

-- the block that begins there is in no list from which the seat is to take it out, nor left of a chain that it took
pub record IsLoose (s : Space) (seat x : ℕ) : Type 0 where
  pub listed : (n : ℕ) → kept_of (s.bins seat) ≢ Piece.Got x n
  pub taken : tally x (s.drained seat) ≡ 0

abbrev pub IsHand : ℕ → Use → Type 0
IsHand seat Use.Bin = ⊥
IsHand seat (Use.Held other taking) = other ≡ seat
IsHand seat Use.Queued = ⊥
IsHand seat Use.Elsewhere = ⊥

abbrev pub IsNotWon : WinNext → Type 0
IsNotWon (WinNext.Goes at) = ⊤
IsNotWon WinNext.Won = ⊥
IsNotWon (WinNext.NotWon found) = ⊤
IsNotWon WinNext.GivenBack = ⊤

-- a step on guards by which no block comes into a bin or the queue, or leaves them
abbrev pub KeepsFree : (k : Key) (seat : ℕ) (s : Space) (h : blocks.Shadow) (m' : Mem) (tasks : ℕ → blocks.Task)
    → GuardStep k seat s.pool.blocks s.pool.mem s.pool.tasks h m' tasks → Type 0
KeepsFree k seat s h m' tasks (GuardStep.begins c is fits) = IsReady c.granules (s.bins seat)
KeepsFree k seat s h m' tasks (GuardStep.wins c at is) = IsNotWon (win_learn c at (found s.pool.mem (win_course c at)))
KeepsFree k seat s h m' tasks (GuardStep.offers x n taking is at) = s.bins seat ≡ Task.Has (bin_of n)
KeepsFree k seat s h m' tasks (GuardStep.offered x n is) = ⊥
KeepsFree k seat s h m' tasks (GuardStep.marks e x n taking guard is at fits) = ⊤
KeepsFree k seat s h m' tasks (GuardStep.readies e x n y taking at low high) = ⊤
KeepsFree k seat s h m' tasks (GuardStep.splits x a b is some more at used) = IsLoose s seat x
KeepsFree k seat s h m' tasks (GuardStep.merges x a b is at behind) = IsLoose s seat x × IsLoose s seat (x + a)
KeepsFree k seat s h m' tasks (GuardStep.reuses x n was now is own own' at fits) =
    IsHand seat was × IsHand seat now × IsLoose s seat x
KeepsFree k seat s h m' tasks GuardStep.drains = ⊥
KeepsFree k seat s h m' tasks (GuardStep.walls e y low none) = ⊤
KeepsFree k seat s h m' tasks (GuardStep.outlines e y low none) = ⊤
KeepsFree k seat s h m' tasks (GuardStep.comes x n some within outside used) = ⊤
KeepsFree k seat s h m' tasks (GuardStep.leaves x n taking is at) = IsLoose s seat x
KeepsFree k seat s h m' tasks (GuardStep.others action other) = ⊤

-- what an action writes is such a word
abbrev pub Writes : (Word → Type 0) → Action → Type 0
Writes IsSuch (Load w) = ⊤
Writes IsSuch (Store w value) = IsSuch w
Writes IsSuch (Swap w value) = IsSuch w
Writes IsSuch (Exchange w from to) = IsSuch w
Writes IsSuch (Add w value) = IsSuch w
Writes IsSuch (TakeOffice job) = ⊤
Writes IsSuch GiveOffice = ⊤
Writes IsSuch Nothing = ⊤

-- words come in the order of their kinds' numbers: slabs' and objects', guards, bins', and the queue's
abbrev pub IsWordIn : ℕ → ℕ → Word → Type 0
IsWordIn low high w = (low ≤ number (kind_of_word w)) × (number (kind_of_word w) ≤ high)

abbrev pub IsOfThings : Action → Type 0
IsOfThings action = Writes (IsWordIn 0 5) action

-- a step on slabs or objects: a block that comes to rest is loose, and one that leaves it comes into the seat's hand
abbrev pub IsOfUses : (k : Key) (seat : ℕ) (s : Space) (later : Pool) → PoolStep k seat s.pool later → Type 0
IsOfUses k seat s later (PoolStep.guards h m' tasks step keeps same) = ⊥
IsOfUses k seat s later (PoolStep.objects h m' l' step plain) = ⊤
IsOfUses k seat s later (PoolStep.frees call kind at few is own) = ⊤
IsOfUses k seat s later (PoolStep.frees_block call x n at taking few is ends away) = ⊤
IsOfUses k seat s later (PoolStep.takes e head below few is) = ⊤
IsOfUses k seat s later (PoolStep.rests e unit few is) = ⊤
IsOfUses k seat s later (PoolStep.joins e first last count is) = ⊤
IsOfUses k seat s later (PoolStep.readies x n unit has away fits low high few) = IsLoose s seat x
IsOfUses k seat s later (PoolStep.slab_begins e class has away even low) = IsLoose s seat e
IsOfUses k seat s later (PoolStep.slab_ends e taking free away by none) = ⊤
IsOfUses k seat s later (PoolStep.slab_cached e has even room) = IsLoose s seat e
IsOfUses k seat s later (PoolStep.newest_out e taking free is) = ⊤
IsOfUses k seat s later (PoolStep.oldest_out e taking free is) = ⊤
IsOfUses k seat s later (PoolStep.clears e n taking has) = ⊤
IsOfUses k seat s later (PoolStep.stores_header e by) = ⊤
IsOfUses k seat s later (PoolStep.leaves e away by header) = ⊤
IsOfUses k seat s later (PoolStep.comes chain away orphans) = ⊤
IsOfUses k seat s later (PoolStep.goes_back e away has) = ⊤
IsOfUses k seat s later (PoolStep.adopts e away has) = ⊤
IsOfUses k seat s later (PoolStep.shelves x n has) = IsLoose s seat x
IsOfUses k seat s later (PoolStep.unshelves x n taking free shelved rests) = ⊤

-- a step at bins of a seat that is at no guard; or a block is won; or one that is put, which is left of no taken chain
abbrev pub IsAtBins : (k : Key) (seat : ℕ) (s : Space) (h : Shadow) (m' : Mem) (l' : Locals)
    → BinStep k seat (bins_of s) s.pool.mem (bin_tasks s) h m' l' → Type 0
IsAtBins k seat s h m' l' (BinStep.guards g m tasks step quiet same) = ⊥
IsAtBins k seat s h m' l' (BinStep.wins c is won ready) = ⊤
IsAtBins k seat s h m' l' (BinStep.comes x n is has) = tally x (s.drained seat) ≡ 0
IsAtBins k seat s h m' l' (BinStep.takes b some is) = s.pool.tasks seat ≡ blocks.Task.Away
IsAtBins k seat s h m' l' (BinStep.leaves x n is) = s.pool.tasks seat ≡ blocks.Task.Away
IsAtBins k seat s h m' l' (BinStep.frees b is) = s.pool.tasks seat ≡ blocks.Task.Away
IsAtBins k seat s h m' l' (BinStep.links x n at is) = s.pool.tasks seat ≡ blocks.Task.Away
IsAtBins k seat s h m' l' (BinStep.unlinks x n at is) = s.pool.tasks seat ≡ blocks.Task.Away

-- a step at the queue: a seat that is to queue a block is in no bin
abbrev pub IsAtQueue : (k : Key) (seat : ℕ) (s : Space) (h : queues.Shadow) (m' : Mem) (l' : queues.Locals)
    → QueueStep k seat (queue_of s) s.pool.mem (queue_tasks s) h m' l' → Type 0
IsAtQueue k seat s h m' l' (QueueStep.guards g m tasks step idle quiet same) = ⊥
IsAtQueue k seat s h m' l' (QueueStep.begins x n is away at marked) = s.bins seat ≡ Task.Away
IsAtQueue k seat s h m' l' (QueueStep.pushes x n at is away) = ⊤
IsAtQueue k seat s h m' l' (QueueStep.takes is) = ⊤
IsAtQueue k seat s h m' l' (QueueStep.reads x is) = ⊤
IsAtQueue k seat s h m' l' (QueueStep.ends is) = ⊤

pub data FreeStep (k : Key) (seat : ℕ) (s : Space) : Space → Type 0 where
  -- a step on guards, or on a word of none of these, by which no block comes into a bin or the queue, or leaves them
  guards : (h : blocks.Shadow) (m' : Mem) (tasks : ℕ → blocks.Task)
      → (step : GuardStep k seat s.pool.blocks s.pool.mem s.pool.tasks h m' tasks)
      → KeepsUse k seat s.pool.blocks s.pool.mem s.pool.tasks h m' tasks step → KeepsFree k seat s h m' tasks step
      → IsIdle (s.queue seat) → SameThings s.pool.mem m' → SameLists s.pool.mem m' → SameQueue s.pool.mem m'
      → FreeStep k seat s (with_guards h m' tasks s)
  -- a step on slabs or objects, and on one of their words
  uses : (later : Pool) (action : Action) → (step : PoolStep k seat s.pool later) → IsOfUses k seat s later step
      → IsIdle (s.queue seat) → IsOfThings action → later.mem ≡ after k s.pool.mem action
      → FreeStep k seat s (record s { pool = later })
  -- a step at bins: a block is won, put, linked or taken out, or a lock is taken or freed
  bins : (h : Shadow) (m' : Mem) (l' : Locals)
      → (step : BinStep k seat (bins_of s) s.pool.mem (bin_tasks s) h m' l') → IsAtBins k seat s h m' l' step
      → IsIdle (s.queue seat) → FreeStep k seat s (with_bins h m' l' s)
  -- a step at the queue: a block is queued, or the queue is taken, read and put
  queue : (h : queues.Shadow) (m' : Mem) (l' : queues.Locals)
      → (step : QueueStep k seat (queue_of s) s.pool.mem (queue_tasks s) h m' l')
      → IsAtQueue k seat s h m' l' step
      → FreeStep k seat s (with_queue h m' l' s)

-- any number of steps of any number of seats
pub data FreeRun (k : Key) (s : Space) : Space → Type 0 where
  starts : FreeRun k s s
  steps : {before later : Space} → FreeRun k s before → (seat : ℕ) → FreeStep k seat before later → FreeRun k s later
