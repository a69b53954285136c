-- The heaps of all threads after their lines, and the quiet pools that have them.
use Rattle.std.specs.Prelude.{◌≡◌, ℕ, suc, ◌+◌, ◌<◌, Bool, List, [], length, Option, Some, None, slice_get}
use Rattle.std.specs.Global.{Vec}
use mathlib.Core.Option.{some}
use lib.ListN.{get_elem?}
use Rattle.atomic_driver.specs.declared.rule.Plan.{Plan}
use Rattle.atomic_driver.specs.declared.seat.DriverSeat.{DriverSeat}
use Rattle.atomic_driver.specs.Rule.{key_by}
use Rattle.pool_types.specs.declared.raw.Raw.{Ghosts}
use Rattle.pool_types.specs.declared.values.Region.{Region}
use Rattle.pool_api.specs.Tables.{Stand}
use Rattle.quiet_pool.specs.Calls.{entries_of}
use Rattle.quiet_pool.specs.Held.{locals_of}
use Rattle.quiet_pool.specs.Quiet.{Quiet}
use Rattle.regions.specs.Offices.{Desk}
use Rattle.step_local.specs.Frames.{made}
use Rattle.step_runs.specs.Entries.{first_entry}
use Rattle.thread_calls.specs.declared.calls.Said.{Said}
use Rattle.thread_lines.specs.Heaps.{Heap, Heaps, IsRested, first_heaps, heap_in}
use Rattle.thread_lines.specs.Telling.{Tells}
use Rattle.thread_pools.specs.declared.columns.Column.{Column}
use Rattle.thread_pools.specs.Pools.{ColumnOf}
use Rattle.trace_reader.specs.declared.acts.TraceLine.{TraceLine}
use Rattle.thread_runs.specs.Traces.{flat}

-- the threads of workers, from the last of so many to the first
abbrev pub AreInTurn : ℕ → List ℕ → Type 0
AreInTurn count threads = (i thread : ℕ) → get_elem? threads i ≡ some thread → thread + suc i ≡ count

abbrev pub said_in : Option (Vec Said) → List Said
said_in None = []
said_in (Some said) = said.items

-- what the calls of a thread came to
abbrev pub said_by : List (Vec Said) → ℕ → List Said
said_by all thread = said_in (slice_get all thread)

module _ {R : Type 0} {raw : Ghosts R} where
  abbrev pub heap_of_column : Option (Column R raw) → ℕ → Option (Heap (Desk R))
  heap_of_column None thread = None
  heap_of_column (Some column) thread = heap_in (slice_get column.heaps.items thread)

  -- the heaps of a thread, by the pools' numbers
  abbrev pub row_of : List (Column R raw) → ℕ → Heaps (Desk R)
  row_of columns thread pool = heap_of_column (slice_get columns pool) thread

  -- what came of the lines of each of so many threads, from new heaps to those that stand in the columns
  pub record HaveRows (named : ℕ → ℕ → Type 0) (pools : List (Option Stand)) (lines : List TraceLine)
      (columns : List (Column R raw)) (all : List (Vec Said)) (count : ℕ) : Type 0 where
    pub count_is : length all ≡ count
    pub tells : (thread : ℕ) → thread < count →
        Tells named thread (first_heaps pools thread) lines (said_by all thread) (row_of columns thread)

module _ {R : Type 0} (out : R → List Region) (faults : R → ℕ) (got : R → ℕ → Option Region → R → Type 0)
    (passed : R → Region → Bool → R → Type 0) where
  -- the heaps are all those of the pool, each at its number and in no call
  abbrev pub IsColumn : {raw : Ghosts R} → Option Stand → List (DriverSeat R raw) → Type 0
  IsColumn None heaps = heaps ≡ []
  IsColumn (Some s) heaps = ColumnOf (IsRested out faults got passed) (key_by s.plan).seats (Some s) heaps

  abbrev pub IsColumnAt : {raw : Ghosts R} → Option (Option Stand) → Option (Column R raw) → Type 0
  IsColumnAt None None = Unit {0}
  IsColumnAt None (Some column) = ⊥
  IsColumnAt (Some slot) None = ⊥
  IsColumnAt (Some slot) (Some column) = IsColumn slot column.heaps.items

  -- each pool has all its heaps
  abbrev pub AreColumns : {raw : Ghosts R} → List (Option Stand) → List (Column R raw) → Type 0
  AreColumns tables columns = (pool : ℕ) → IsColumnAt (slice_get tables pool) (slice_get columns pool)

-- what a quiet pool was made with
abbrev pub quiet_plan : {R : Type 0} → Option (Quiet R) → Option Plan
quiet_plan None = None
quiet_plan (Some q) = Some q.plan

-- the quiet pool is the table's, with the locals and the entries of these heaps
abbrev pub IsQuietOf : {R : Type 0} {raw : Ghosts R} → Option Stand → List (DriverSeat R raw) → Option (Quiet R)
    → Type 0
IsQuietOf None heaps quiet = quiet ≡ None
IsQuietOf (Some s) heaps None = ⊥
IsQuietOf (Some s) heaps (Some q) = (q.plan ≡ s.plan) × (q.locals ≡ locals_of heaps) × (q.entries ≡ entries_of heaps)

abbrev pub IsQuietAt : {R : Type 0} {raw : Ghosts R} → Option (Option Stand) → Option (Column R raw)
    → Option (Option (Quiet R)) → Type 0
IsQuietAt None column quiet = quiet ≡ None
IsQuietAt (Some slot) None quiet = ⊥
IsQuietAt (Some slot) (Some column) quiet = (one : Option (Quiet _)) × (quiet ≡ Some one)
    × IsQuietOf slot column.heaps.items one

-- each pool is quiet, with its heaps
abbrev pub AreQuiet : {R : Type 0} {raw : Ghosts R} → List (Option Stand) → List (Column R raw)
    → List (Option (Quiet R))
    → Type 0
AreQuiet tables columns all =
    (pool : ℕ) → IsQuietAt (slice_get tables pool) (slice_get columns pool) (slice_get all pool)

-- the heap is the one of this number of a quiet pool; there is none where the pool was not made
abbrev pub IsSeatOf : {R : Type 0} → ℕ → Option (Quiet R) → Option (Heap (Desk R)) → Type 0
IsSeatOf thread None heap = heap ≡ None
IsSeatOf {R} thread (Some q) heap = (one : Heap (Desk R)) × (heap ≡ Some one)
    × (slice_get q.locals thread ≡ Some one.local) × (slice_get q.entries thread ≡ Some one.entry)

-- the heap of this number of a pool that was made so, before its first turn
abbrev pub first_of : {R : Type 0} → ℕ → Option (Quiet R) → Option (Heap (Desk R))
first_of thread None = None
first_of thread (Some q) =
    Some (record { local = made (key_by q.plan) thread; entry = first_entry (key_by q.plan) thread })

abbrev pub firsts_of : {R : Type 0} → List (Option (Quiet R)) → ℕ → Heaps (Desk R)
firsts_of pools thread pool = first_of thread (flat (slice_get pools pool))

-- What came of a thread's lines, from its heaps before their first turns to those that quiet pools have.
pub record IsPath {R : Type 0} (named : ℕ → ℕ → Type 0) (pools : List (Option (Quiet R))) (lines : List TraceLine)
    (thread : ℕ) (said : List Said) : Type 0 where
  pub heaps : Heaps (Desk R)
  pub tells : Tells named thread (firsts_of pools thread) lines said heaps
  pub seats : (pool : ℕ) → IsSeatOf thread (flat (slice_get pools pool)) (heaps pool)
