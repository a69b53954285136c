-- The words under locks: those that a step writes only where its seat has the lock.
use Rattle.std.specs.Prelude.{◌≡◌, ◌≢◌, ℕ, Bool, true, List, [], ◌∷◌, Option, Some, ⊤}
use Rattle.pool_types.specs.declared.policy.Limits.{Limits}
use Rattle.pool_types.specs.declared.policy.Policy.{Policy}
use Rattle.pool_types.specs.declared.values.Region.{Region}
use Rattle.regions.specs.Offices.{Desk}
use Rattle.pool_words.specs.declared.words.Key.{Key}
use Rattle.pool_words.specs.declared.words.Word.{Word}
use Rattle.pool_words.specs.declared.actions.Action.{Action}
use Rattle.pool_words.specs.declared.actions.Action.TheVariants.{Load, Store, Swap, Exchange, Add, TakeOffice}
use Rattle.pool_words.specs.declared.actions.Action.TheVariants.{GiveOffice, Nothing}
use Rattle.pool_words.specs.Actions.{after_action}
use Rattle.pool_words.specs.Words.{WordKind, bin_heads, cache_heads, cache_items, cache_used, cache_means}
use Rattle.pool_words.specs.Words.{cache_thresholds, cache_gets, cache_cleaned}
use Rattle.word_laws.specs.Memory.{memory}
use Rattle.step_depot.specs.Steps.{key_of}
use Rattle.step_local.specs.declared.frames.Local.{Local}
use Rattle.step_local.specs.Course.{course}
use Rattle.step_runs.specs.declared.entry.Entry.{Entry}
use Rattle.step_runs.specs.Callbacks.{office_of, PoolRun}
use Rattle.step_runs.specs.Runs.{Silent}
use Rattle.step_writes.specs.Writings.{has_kind}
use Rattle.step_locks.specs.Holdings.{Holding, bin_lock, cache_lock}
use Rattle.step_locks.specs.Positions.{holding_of, bin_lock_of, cache_lock_of}

-- a bin's head is written with that bin's lock, and a block's links with some bin's; so are the numbers and the head
-- of a cache bin, and the link and the age of a block in the cache
abbrev pub IsUnderLock : Holding → Word → Type 0
IsUnderLock had (Word.BinHead bin) = had ≡ bin_lock bin
IsUnderLock had (Word.Forward block) = (bin : ℕ) × (had ≡ bin_lock bin)
IsUnderLock had (Word.Backward block) = (bin : ℕ) × (had ≡ bin_lock bin)
IsUnderLock had (Word.CacheHead granules) = had ≡ cache_lock granules
IsUnderLock had (Word.CacheItems granules) = had ≡ cache_lock granules
IsUnderLock had (Word.CacheUsed granules) = had ≡ cache_lock granules
IsUnderLock had (Word.CacheMean granules) = had ≡ cache_lock granules
IsUnderLock had (Word.CacheThreshold granules) = had ≡ cache_lock granules
IsUnderLock had (Word.CacheGet granules) = had ≡ cache_lock granules
IsUnderLock had (Word.CacheCleaned granules) = had ≡ cache_lock granules
IsUnderLock had (Word.CacheLink block) = (granules : ℕ) × (had ≡ cache_lock granules)
IsUnderLock had (Word.CacheAge block) = (granules : ℕ) × (had ≡ cache_lock granules)
IsUnderLock had _ = ⊤

abbrev pub WritesUnderLock : Holding → Action → Type 0
WritesUnderLock had (Load w) = ⊤
WritesUnderLock had (Store w value) = IsUnderLock had w
WritesUnderLock had (Swap w value) = IsUnderLock had w
WritesUnderLock had (Exchange w from to) = IsUnderLock had w
WritesUnderLock had (Add w value) = IsUnderLock had w
WritesUnderLock had (TakeOffice job) = ⊤
WritesUnderLock had GiveOffice = ⊤
WritesUnderLock had Nothing = ⊤

abbrev pub StepsWriteUnderLocks : Type 0
StepsWriteUnderLocks = (l : Local) → WritesUnderLock (holding_of l) (course l)

-- the words of a cache bin, of which there is one of each kind
abbrev pub cache_bin_kinds : List WordKind
cache_bin_kinds = cache_heads ∷ cache_items ∷ cache_used ∷ cache_means ∷ cache_thresholds ∷ cache_gets ∷ cache_cleaned
    ∷ []

-- an action leaves the words of the bin whose lock the seat has
pub record LeavesLocked (k : Key) (words : List ℕ) (action : Action) (l : Local) : Type 0 where
  pub head : (bin : ℕ) → bin_lock_of l ≡ Some bin
      → memory k (after_action k words action) bin_heads bin ≡ memory k words bin_heads bin
  pub cache : (granules : ℕ) (which : WordKind) → cache_lock_of l ≡ Some granules
      → has_kind which cache_bin_kinds ≡ true
      → memory k (after_action k words action) which granules ≡ memory k words which granules

module _ {R : Type 0} (out : R → List Region) (faults : R → ℕ) (got : R → ℕ → Option Region → R → Type 0)
    (passed : R → Region → Bool → R → Type 0) where
  -- the next step of a seat leaves the words of the bin whose lock another seat has
  abbrev pub OthersLeaveLockedWords : Type 0
  OthersLeaveLockedWords =
      (policy : Policy) (limits : Limits) (raw : R) (words : List ℕ) (home : Option (Desk R))
      (entries : ℕ → Entry (Desk R)) (seat other : ℕ) (l : Local) (desk : Option (Desk R))
      → PoolRun out faults got passed policy limits raw words home entries → other ≢ seat
      → Silent (office_of out faults got passed (key_of policy limits)) (entries other).local (entries other).desk l
      desk
      → LeavesLocked (key_of policy limits) words (course l) (entries seat).local
