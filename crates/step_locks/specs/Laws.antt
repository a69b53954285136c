-- The laws of locks over whole locals and over runs.
use Rattle.std.specs.Prelude.{◌≡◌, ◌≢◌, ℕ, Bool, true, false, List, [], ◌∷◌, Option, Some}
use Rattle.pool_types.specs.declared.policy.Limits.{Limits}
use Rattle.pool_types.specs.declared.policy.Policy.{Policy}
use Rattle.pool_types.specs.declared.values.Region.{Region}
use Rattle.pool_types.specs.declared.values.Request.{Request}
use Rattle.regions.specs.Offices.{Desk}
use Rattle.pool_words.specs.declared.words.Key.{Key}
use Rattle.pool_words.specs.declared.words.Word.{Word}
use Rattle.pool_words.specs.declared.actions.Action.{Action}
use Rattle.pool_words.specs.declared.actions.Seen.{Seen}
use Rattle.pool_words.specs.Actions.{after_action, word_seen}
use Rattle.pool_words.specs.Words.{WordKind, bin_locks, cache_locks}
use Rattle.locked_chain.specs.Locks.{lock_course, unlock_course}
use Rattle.word_laws.specs.Memory.{memory}
use Rattle.lock_laws.specs.Locks.{LocksFit}
use Rattle.step_depot.specs.Steps.{key_of}
use Rattle.step_local.specs.declared.frames.Local.{Local}
use Rattle.step_local.specs.declared.frames.Reset.{Reset}
use Rattle.step_local.specs.Course.{course}
use Rattle.step_local.specs.Getting.{begun, reset_begun}
use Rattle.step_local.specs.Learn.{learn}
use Rattle.step_runs.specs.declared.entry.Entry.{Entry}
use Rattle.step_runs.specs.Callbacks.{office_of, PoolRun}
use Rattle.step_runs.specs.Places.{has_word}
use Rattle.step_runs.specs.Runs.{Silent}
use Rattle.step_writes.specs.Writings.{writing_of, writes_one_of}
use Rattle.step_locks.specs.Holdings.{Holding, no_lock, bin_lock, cache_lock, Change, keeps, takes, frees, after_change}
use Rattle.step_locks.specs.Positions.{holding_of, change_of, bin_lock_of, cache_lock_of, bin_locks_of, cache_locks_of}

-- a turn makes of a seat's lock what its position says
abbrev pub TurnsChangeLocks : Type 0
TurnsChangeLocks = (l : Local) (s : Seen)
    → holding_of (learn l s).0 ≡ after_change (change_of l) (word_seen s) (holding_of l)

-- a call that begins, or a reset, begins without one
pub record KeepsLock (l : Local) : Type 0 where
  pub begins : (request : Request) → holding_of (begun l request).0 ≡ holding_of l
  pub resets : (reset : Reset) → holding_of (reset_begun l reset).0 ≡ holding_of l

abbrev pub BeginsKeepLocks : Type 0
BeginsKeepLocks = (l : Local) → KeepsLock l

abbrev pub lock_kinds : List WordKind
lock_kinds = bin_locks ∷ cache_locks ∷ []

-- a lock is taken by a seat that has none, in the lock's own word, and is freed there; no other step writes such a word
abbrev pub IsOnLock : ℕ → Holding → Change → Action → Type 0
IsOnLock seat had keeps action = writes_one_of lock_kinds (writing_of action) ≡ false
IsOnLock seat had (takes no_lock) action = ⊥
IsOnLock seat had (takes (bin_lock bin)) action =
    (had ≡ no_lock) × (action ≡ lock_course (record { word = Word.BinLock bin; seat = seat }))
IsOnLock seat had (takes (cache_lock granules)) action =
    (had ≡ no_lock) × (action ≡ lock_course (record { word = Word.CacheLock granules; seat = seat }))
IsOnLock seat no_lock frees action = ⊥
IsOnLock seat (bin_lock bin) frees action =
    action ≡ unlock_course (record { word = Word.BinLock bin; seat = seat })
IsOnLock seat (cache_lock granules) frees action =
    action ≡ unlock_course (record { word = Word.CacheLock granules; seat = seat })

abbrev pub StepsTakeAndFreeLocks : Type 0
StepsTakeAndFreeLocks = (l : Local) → IsOnLock l.seat (holding_of l) (change_of l) (course l)

-- each lock's word names a seat exactly where the seat's local says that it has the lock
pub record AreLocksNamed {D : Type 0} (k : Key) (words : List ℕ) (entries : ℕ → Entry D) : Type 0 where
  pub bins : LocksFit (memory k words bin_locks) (bin_locks_of entries)
  pub caches : LocksFit (memory k words cache_locks) (cache_locks_of entries)

-- no two seats have one lock
pub record AreHeldOnce {D : Type 0} (entries : ℕ → Entry D) : Type 0 where
  pub bins : (seat other bin : ℕ) → bin_lock_of (entries seat).local ≡ Some bin
      → bin_lock_of (entries other).local ≡ Some bin → seat ≡ other
  pub caches : (seat other granules : ℕ) → cache_lock_of (entries seat).local ≡ Some granules
      → cache_lock_of (entries other).local ≡ Some granules → seat ≡ other

-- an action leaves the word of each lock that the seat has
pub record LeavesLock (k : Key) (words : List ℕ) (action : Action) (l : Local) : Type 0 where
  pub bin : (b : ℕ) → bin_lock_of l ≡ Some b
      → memory k (after_action k words action) bin_locks b ≡ memory k words bin_locks b
  pub cache : (b : ℕ) → cache_lock_of l ≡ Some b
      → memory k (after_action k words action) cache_locks b ≡ memory k words cache_locks b

module _ {R : Type 0} (out : R → List Region) (faults : R → ℕ) (got : R → ℕ → Option Region → R → Type 0)
    (passed : R → Region → Bool → R → Type 0) where
  -- in each state that a pool comes to
  abbrev pub LocksNameTheirSeat : Type 0
  LocksNameTheirSeat =
      (policy : Policy) (limits : Limits) (raw : R) (words : List ℕ) (home : Option (Desk R))
      (entries : ℕ → Entry (Desk R)) → PoolRun out faults got passed policy limits raw words home entries
      → AreLocksNamed (key_of policy limits) words entries

  abbrev pub LocksAreHeldOnce : Type 0
  LocksAreHeldOnce =
      (policy : Policy) (limits : Limits) (raw : R) (words : List ℕ) (home : Option (Desk R))
      (entries : ℕ → Entry (Desk R)) → PoolRun out faults got passed policy limits raw words home entries
      → AreHeldOnce entries

  -- the next step of a seat, after what it comes to without one, leaves the lock that another seat has
  abbrev pub OthersLeaveHeldLocks : Type 0
  OthersLeaveHeldLocks =
      (policy : Policy) (limits : Limits) (raw : R) (words : List ℕ) (home : Option (Desk R))
      (entries : ℕ → Entry (Desk R)) (seat other : ℕ) (l : Local) (desk : Option (Desk R))
      → PoolRun out faults got passed policy limits raw words home entries → other ≢ seat
      → Silent (office_of out faults got passed (key_of policy limits)) (entries other).local (entries other).desk l
      desk
      → has_word (course l) ≡ true
      → LeavesLock (key_of policy limits) words (course l) (entries seat).local
