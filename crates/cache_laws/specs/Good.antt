-- Which seat has which bin's lock, and what holds of bins and seats while they step.
use Rattle.std.specs.Prelude.{◌≡◌, ◌≢◌, ◌⊎◌, ℕ, ◌^◌, ◌<◌, ◌≤◌, Bool, true, false, cond, Option, Some, None, List}
use Rattle.std.specs.Prelude.{[], length, ⊤}
use Rattle.cache_ages.specs.Times.{most_items}
use Rattle.pool_words.specs.declared.words.Key.{Key}
use Rattle.pool_words.specs.declared.words.Word.{Word}
use Rattle.pool_words.specs.Words.{cache_counts}
use Rattle.pool_words.specs.Words.{cache_links, cache_ages}
use Rattle.large_cache.specs.declared.get.GetAt.{GetAt}
use Rattle.large_cache.specs.declared.keep.KeepAt.{KeepAt}
use Rattle.large_cache.specs.declared.sweep.Cleanup.{Cleanup}
use Rattle.large_cache.specs.declared.sweep.SweepAt.{SweepAt}
use Rattle.large_cache.specs.declared.undo.UndoAt.{UndoAt}
use Rattle.word_laws.specs.Memory.{Mem}
use Rattle.chain_laws.specs.Chains.{tally}
use Rattle.lock_laws.specs.Locks.{locks_of, LocksFit}
use Rattle.cache_laws.specs.Bins.{Bin, blocks_of, Says}
use Rattle.cache_laws.specs.Gets.{get_stage, GetNoted, undo_stage, UndoNoted}
use Rattle.cache_laws.specs.Puts.{keep_stage, KeepNoted, HandFits}
use Rattle.cache_laws.specs.Sweeps.{sweep_stage, SweepNoted}

-- what a seat does, at the bin for blocks of so many granules
pub data Task : Type 0 where
  Away : Task
  Getting : (granules time : ℕ) (at : GetAt) → Task
  Undoing : (granules : ℕ) (at : UndoAt) → Task
  Keeping : (granules time block : ℕ) (at : KeepAt) → Task
  -- with the blocks that go, as far as it is known
  Sweeping : (granules time : ℕ) (cleanup : Cleanup) (gone : List ℕ) (at : SweepAt) → Task

abbrev pub bin_of : Task → ℕ
bin_of Task.Away = 0
bin_of (Task.Getting b time at) = b
bin_of (Task.Undoing b at) = b
bin_of (Task.Keeping b time block at) = b
bin_of (Task.Sweeping b time cleanup gone at) = b

-- a seat has its bin's lock from its winning it to its freeing it
abbrev pub get_holds : GetAt → Bool
get_holds GetAt.Lock = false
get_holds GetAt.Items = true
get_holds (GetAt.Head items) = true
get_holds (GetAt.Hit at) = true
get_holds GetAt.Cleaned = true
get_holds (GetAt.SetThreshold cleaned) = true
get_holds GetAt.ClearCleaned = true
get_holds (GetAt.SetTime block) = true
get_holds (GetAt.Used block) = true
get_holds (GetAt.SetUsed block used) = true
get_holds (GetAt.Unlock block) = true

abbrev pub undo_holds : UndoAt → Bool
undo_holds UndoAt.Lock = false
undo_holds UndoAt.Used = true
undo_holds (UndoAt.SetUsed used) = true
undo_holds UndoAt.Unlock = true

abbrev pub keep_holds : KeepAt → Bool
keep_holds KeepAt.Lock = false
keep_holds KeepAt.Items = true
keep_holds (KeepAt.Head items) = true
keep_holds (KeepAt.Walk tail) = true
keep_holds (KeepAt.OldAge tail) = true
keep_holds (KeepAt.Cut tail age) = true
keep_holds (KeepAt.SetCleaned tail age) = true
keep_holds (KeepAt.SetLink items head released) = true
keep_holds (KeepAt.SetAge items released) = true
keep_holds (KeepAt.SetHead items released) = true
keep_holds (KeepAt.SetItems items released) = true
keep_holds (KeepAt.Used released) = true
keep_holds (KeepAt.SetUsed released used) = true
keep_holds (KeepAt.Unlock released) = true

abbrev pub sweep_holds : SweepAt → Bool
sweep_holds SweepAt.Clock = false
sweep_holds SweepAt.Peek = false
sweep_holds SweepAt.Lock = false
sweep_holds SweepAt.Items = true
sweep_holds (SweepAt.Judge at) = true
sweep_holds (SweepAt.SetThreshold count threshold) = true
sweep_holds (SweepAt.Head count threshold) = true
sweep_holds (SweepAt.Age walk) = true
sweep_holds (SweepAt.Link walk) = true
sweep_holds (SweepAt.Cut walk) = true
sweep_holds (SweepAt.SetItems walk) = true
sweep_holds (SweepAt.SetCleaned walk) = true
sweep_holds SweepAt.Unlock = true

abbrev pub holds : Task → Bool
holds Task.Away = false
holds (Task.Getting b time at) = get_holds at
holds (Task.Undoing b at) = undo_holds at
holds (Task.Keeping b time block at) = keep_holds at
holds (Task.Sweeping b time cleanup gone at) = sweep_holds at

abbrev pub lock_in : Task → Option ℕ
lock_in task = cond (holds task) (Some (bin_of task)) None

-- the block that a seat is about to put
abbrev pub hand : Task → Option ℕ
hand Task.Away = None
hand (Task.Getting b time at) = None
hand (Task.Undoing b at) = None
hand (Task.Keeping b time block at) = Some block
hand (Task.Sweeping b time cleanup gone at) = None

-- what the bin's words say while the seat is there, by its position and by what the bin had when it took the lock
abbrev pub stage : Task → Bin → Bin
stage Task.Away bin = bin
stage (Task.Getting b time at) bin = get_stage time bin at
stage (Task.Undoing b at) bin = undo_stage bin at
stage (Task.Keeping b time block at) bin = keep_stage time block bin at
stage (Task.Sweeping b time cleanup gone at) bin = sweep_stage cleanup time bin at

abbrev pub Noted : Task → Bin → Type 0
Noted Task.Away bin = ⊤
Noted (Task.Getting b time at) bin = GetNoted bin at
Noted (Task.Undoing b at) bin = UndoNoted bin at
Noted (Task.Keeping b time block at) bin = KeepNoted bin at
Noted (Task.Sweeping b time cleanup gone at) bin = SweepNoted cleanup time bin gone at

-- what the seat rests on of the words of the block that it is about to put
abbrev pub InHand : (ℕ → ℕ) → (ℕ → ℕ) → Task → Bin → Type 0
InHand links ages Task.Away bin = ⊤
InHand links ages (Task.Getting b time at) bin = ⊤
InHand links ages (Task.Undoing b at) bin = ⊤
InHand links ages (Task.Keeping b time block at) bin = HandFits links ages time block bin at
InHand links ages (Task.Sweeping b time cleanup gone at) bin = ⊤

abbrev pub CallFits : Key → Task → Type 0
CallFits k Task.Away = ⊤
CallFits k (Task.Getting b time at) = b < cache_counts
CallFits k (Task.Undoing b at) = b < cache_counts
CallFits k (Task.Keeping b time block at) = (b < cache_counts) × (block < k.span)
CallFits k (Task.Sweeping b time cleanup gone at) = (b < cache_counts) × (sweep_holds at ≡ false → gone ≡ [])

-- the blocks of the seat's bin, and the one that the seat is about to put
abbrev pub IsOwn : (ℕ → Bin) → Task → ℕ → Type 0
IsOwn g task x = (0 < tally x (blocks_of (g (bin_of task)).items)) ⊎ (hand task ≡ Some x)

-- what holds of a bin whose lock a seat has
pub record Holding (g : ℕ → Bin) (m : Mem) (task : Task) : Type 0 where
  pub says : Says m (bin_of task) (stage task (g (bin_of task)))
  pub noted : Noted task (g (bin_of task))
  pub in_hand : InHand (m cache_links) (m cache_ages) task (g (bin_of task))
  pub own : (x : ℕ) → 0 < tally x (blocks_of (stage task (g (bin_of task))).items) → IsOwn g task x

-- the count is that of the blocks, each of which is a granule of the pool, and there once
pub record BinFits (k : Key) (bin : Bin) : Type 0 where
  pub counted : bin.count ≡ length bin.items
  pub few : length bin.items ≤ most_items
  pub inside : (x : ℕ) → 0 < tally x (blocks_of bin.items) → x < k.span
  pub once : (x : ℕ) → tally x (blocks_of bin.items) ≤ 1

abbrev pub lock_words : ℕ → Word
lock_words b = Word.CacheLock b

abbrev pub locked_in : (ℕ → Task) → ℕ → Option ℕ
locked_in tasks seat = lock_in (tasks seat)

pub record CacheGood (k : Key) (g : ℕ → Bin) (m : Mem) (tasks : ℕ → Task) : Type 0 where
  pub span : k.span < 2 ^ 32
  -- a lock's word names the seat that has the lock
  pub locks : LocksFit (locks_of lock_words m) (locked_in tasks)
  pub rest : (b : ℕ) → ((seat : ℕ) → lock_in (tasks seat) ≢ Some b) → Says m b (g b)
  pub held : (seat : ℕ) → holds (tasks seat) ≡ true → Holding g m (tasks seat)
  pub calls : (seat : ℕ) → CallFits k (tasks seat)
  pub bins : (b : ℕ) → BinFits k (g b)
  -- no block is in two bins, and none that a seat is about to put is in one, or another's
  pub once : (b c : ℕ) → b ≢ c → (x : ℕ) → 0 < tally x (blocks_of (g b).items) → tally x (blocks_of (g c).items) ≡ 0
  pub hands : (seat x b : ℕ) → hand (tasks seat) ≡ Some x → tally x (blocks_of (g b).items) ≡ 0
  pub apart : (seat other x : ℕ) → seat ≢ other → hand (tasks seat) ≡ Some x → hand (tasks other) ≢ Some x
