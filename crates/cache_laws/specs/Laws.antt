-- The laws of the cache of large blocks.
use Rattle.std.specs.Prelude.{◌≡◌, ◌≢◌, ◌⊎◌, ℕ, ◌+◌, ◌%◌, ◌^◌, ◌<◌, ◌≤◌, true, Option, Some, List, ⊤}
use Rattle.cache_ages.specs.declared.CacheOp.{CacheOp}
use Rattle.cache_ages.specs.CacheSteps.{cache_step, CanStep}
use Rattle.pool_words.specs.declared.words.Key.{Key}
use Rattle.pool_words.specs.Words.{cache_locks, cache_used, clocks}
use Rattle.large_cache.specs.declared.get.GetAt.{GetAt}
use Rattle.large_cache.specs.declared.keep.KeepAt.{KeepAt}
use Rattle.large_cache.specs.declared.sweep.Cleanup.{Cleanup}
use Rattle.large_cache.specs.declared.sweep.SweepAt.{SweepAt}
use Rattle.word_laws.specs.Memory.{Mem, found, fresh}
use Rattle.chain_laws.specs.Chains.{tally}
use Rattle.chain_laws.specs.Named.{ten_key}
use Rattle.cache_laws.specs.Bins.{Bin, blocks_of, numbers_of, Says}
use Rattle.cache_laws.specs.Gets.{taken_of}
use Rattle.cache_laws.specs.Puts.{released_of}
use Rattle.cache_laws.specs.Sweeps.{gone_of}
use Rattle.cache_laws.specs.Good.{Task, holds, lock_in, stage, CacheGood}
use Rattle.cache_laws.specs.Steps.{BinStep, BinRun}
use Rattle.cache_laws.specs.Uses.{Uses, uses_of, UsesGood, UseStep, UseRun}
use Rattle.cache_laws.specs.Clock.{tick, ClockRun}
use Rattle.cache_laws.specs.Named.{no_bins, no_uses, named_bins, named_words, named_tasks}
use Rattle.cache_laws.specs.Named.{busy_bins, busy_words, busy_tasks}

-- each step of each seat keeps what holds of bins
abbrev pub StepsKeepCache : Type 0
StepsKeepCache =
    (k : Key) (g : ℕ → Bin) (m : Mem) (tasks : ℕ → Task) (h : ℕ → Bin) (m' : Mem) (tasks' : ℕ → Task)
    → CacheGood k g m tasks → BinStep k g m tasks h m' tasks' → CacheGood k h m' tasks'

abbrev pub RunsKeepCache : Type 0
RunsKeepCache =
    (k : Key) (g : ℕ → Bin) (m : Mem) (tasks : ℕ → Task) (h : ℕ → Bin) (m' : Mem) (tasks' : ℕ → Task)
    → CacheGood k g m tasks → BinRun k g m tasks h m' tasks' → CacheGood k h m' tasks'

-- a bin after one step of the rules: the bin of this number, by this operation at this time; no other changes
pub record OneStep (g h : ℕ → Bin) (b : ℕ) (op : CacheOp) (time : ℕ) : Type 0 where
  pub numbers : CanStep op (g b).used → numbers_of (h b) ≡ (cache_step (numbers_of (g b)) op time).numbers
  pub others : (c : ℕ) → c ≢ b → h c ≡ g c

abbrev pub op_of : Cleanup → CacheOp
op_of Cleanup.Regular = CacheOp.Regular
op_of Cleanup.Soft = CacheOp.Soft
op_of Cleanup.Hard = CacheOp.Hard

-- the change is the step that the seat's job is
abbrev pub IsJob : (ℕ → Bin) → (ℕ → Bin) → Task → Type 0
IsJob g h Task.Away = ⊥
IsJob g h (Task.Getting b time at) = OneStep g h b CacheOp.Get time
IsJob g h (Task.Undoing b at) = OneStep g h b CacheOp.Undo 0
IsJob g h (Task.Keeping b time block at) = OneStep g h b CacheOp.Put time
IsJob g h (Task.Sweeping b time cleanup gone at) = OneStep g h b (op_of cleanup) time

-- a step leaves all bins, or is one step of the rules at the bin whose lock its seat has
pub record BinChange (g h : ℕ → Bin) (tasks : ℕ → Task) : Type 0 where
  pub seat : ℕ
  pub lock : holds (tasks seat) ≡ true
  pub change : IsJob g h (tasks seat)

abbrev pub EachChangeIsOneStepOfTheRules : Type 0
EachChangeIsOneStepOfTheRules =
    (k : Key) (g : ℕ → Bin) (m : Mem) (tasks : ℕ → Task) (h : ℕ → Bin) (m' : Mem) (tasks' : ℕ → Task)
    → CacheGood k g m tasks → BinStep k g m tasks h m' tasks' → (h ≡ g) ⊎ BinChange g h tasks

-- the words of a bin are those of the stage of the seat that has its lock, and where nobody has it, those of the bin
pub record SaysStage (g : ℕ → Bin) (m : Mem) (tasks : ℕ → Task) (b : ℕ) : Type 0 where
  pub held : (seat : ℕ) → lock_in (tasks seat) ≡ Some b → Says m b (stage (tasks seat) (g b))
  pub one : (seat other : ℕ) → lock_in (tasks seat) ≡ Some b → lock_in (tasks other) ≡ Some b → other ≡ seat
  pub free : m cache_locks b ≡ 0 → Says m b (g b)

abbrev pub WordsAreThoseOfTheStage : Type 0
WordsAreThoseOfTheStage =
    (k : Key) (g : ℕ → Bin) (m : Mem) (tasks : ℕ → Task) (b : ℕ) → CacheGood k g m tasks → SaysStage g m tasks b

-- a block of a bin is there once, and in no other
pub record IsOnceIn (g : ℕ → Bin) (x b : ℕ) : Type 0 where
  pub here : tally x (blocks_of (g b).items) ≡ 1
  pub else : (c : ℕ) → c ≢ b → tally x (blocks_of (g c).items) ≡ 0

abbrev pub BlocksAreOnce : Type 0
BlocksAreOnce =
    (k : Key) (g : ℕ → Bin) (m : Mem) (tasks : ℕ → Task) (x b : ℕ) → CacheGood k g m tasks
    → 0 < tally x (blocks_of (g b).items) → IsOnceIn g x b

-- a get whose bin has a block takes the newest, and one whose bin has none takes none
abbrev pub GetsTakeTheNewest : Type 0
GetsTakeTheNewest =
    (k : Key) (g : ℕ → Bin) (m : Mem) (tasks : ℕ → Task) (seat b time : ℕ) (block : Option ℕ)
    → CacheGood k g m tasks → tasks seat ≡ Task.Getting b time (GetAt.Unlock block) → block ≡ taken_of (g b).items

-- a put whose bin is full releases the oldest block, and another none
abbrev pub PutsReleaseTheOldest : Type 0
PutsReleaseTheOldest =
    (k : Key) (g : ℕ → Bin) (m : Mem) (tasks : ℕ → Task) (seat b time block : ℕ) (released : Option ℕ)
    → CacheGood k g m tasks → tasks seat ≡ Task.Keeping b time block (KeepAt.Unlock released)
    → released ≡ released_of (g b)

-- a sweep releases the oldest blocks that the rules release, the newest of them first
abbrev pub SweepsReleaseTheOldest : Type 0
SweepsReleaseTheOldest =
    (k : Key) (g : ℕ → Bin) (m : Mem) (tasks : ℕ → Task) (seat b time : ℕ) (cleanup : Cleanup) (gone : List ℕ)
    → CacheGood k g m tasks → tasks seat ≡ Task.Sweeping b time cleanup gone SweepAt.Unlock
    → gone ≡ gone_of cleanup time (g b)

-- bins and uses together
pub record BothGood (k : Key) (g : ℕ → Bin) (m : Mem) (tasks : ℕ → Task) (u : Uses) : Type 0 where
  pub cache : CacheGood k g m tasks
  pub uses : UsesGood k g tasks u

abbrev pub StepsKeepUses : Type 0
StepsKeepUses =
    (k : Key) (g : ℕ → Bin) (m : Mem) (tasks : ℕ → Task) (u : Uses) (h : ℕ → Bin) (m' : Mem) (tasks' : ℕ → Task)
    (u' : Uses) → BothGood k g m tasks u → UseStep k g m tasks u h m' tasks' u' → BothGood k h m' tasks' u'

abbrev pub RunsKeepUses : Type 0
RunsKeepUses =
    (k : Key) (g : ℕ → Bin) (m : Mem) (tasks : ℕ → Task) (u : Uses) (h : ℕ → Bin) (m' : Mem) (tasks' : ℕ → Task)
    (u' : Uses) → BothGood k g m tasks u → UseRun k g m tasks u h m' tasks' u' → BothGood k h m' tasks' u'

-- where a bin's lock is free, its word for blocks in use says how many uses of its size there are
abbrev pub UsedIsTheNumberOfUses : Type 0
UsedIsTheNumberOfUses =
    (k : Key) (g : ℕ → Bin) (m : Mem) (tasks : ℕ → Task) (u : Uses) (b : ℕ) → BothGood k g m tasks u
    → m cache_locks b ≡ 0 → m cache_used b ≡ uses_of k u b

-- a get may count one block more, and an undo and a put one less
abbrev pub CanJob : (ℕ → Bin) → Task → Type 0
CanJob g Task.Away = ⊤
CanJob g (Task.Getting b time at) = CanStep CacheOp.Get (g b).used
CanJob g (Task.Undoing b at) = CanStep CacheOp.Undo (g b).used
CanJob g (Task.Keeping b time block at) = CanStep CacheOp.Put (g b).used
CanJob g (Task.Sweeping b time cleanup gone at) = ⊤

abbrev pub JobsCanStep : Type 0
JobsCanStep =
    (k : Key) (g : ℕ → Bin) (m : Mem) (tasks : ℕ → Task) (u : Uses) (seat : ℕ) → BothGood k g m tasks u
    → CanJob g (tasks seat)

-- the clock says how many ticks there were
abbrev pub ClockCountsTicks : Type 0
ClockCountsTicks =
    (k : Key) (m0 m : Mem) (n : ℕ) → m0 clocks 0 < 2 ^ 64 → ClockRun k m0 m n → m clocks 0 ≡ (m0 clocks 0 + n) % 2 ^ 64

-- what two ticks find differs, where fewer than 2 ^ 64 are between them
abbrev pub TimesAreApart : Type 0
TimesAreApart =
    (k : Key) (m0 m m' : Mem) (n n' : ℕ) → m0 clocks 0 < 2 ^ 64 → ClockRun k m0 m n → ClockRun k m0 m' n' → n < n'
    → n' < n + 2 ^ 64 → found m tick ≢ found m' tick

-- in a new pool nothing is in use
abbrev pub FreshUsesAreNone : Type 0
FreshUsesAreNone =
    (k : Key) → k.span < 2 ^ 32 → k.seats ≤ 256 → BothGood k no_bins fresh (λ seat. Task.Away) no_uses

-- in a new pool each bin is empty
abbrev pub FreshBinsAreEmpty : Type 0
FreshBinsAreEmpty = (k : Key) → k.span < 2 ^ 32 → CacheGood k no_bins fresh (λ seat. Task.Away)

-- a bin with two blocks, from which a get is taking the newest
abbrev pub NamedBinStands : Type 0
NamedBinStands = CacheGood ten_key named_bins named_words named_tasks

-- three seats at three bins: one takes a block, one puts one, and one sweeps
abbrev pub BusyBinsStand : Type 0
BusyBinsStand = CacheGood ten_key busy_bins busy_words busy_tasks
