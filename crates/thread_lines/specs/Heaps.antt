-- A thread's heaps, by the numbers of their pools.
use Rattle.std.specs.Prelude.{◌≡◌, ℕ, Bool, cond, eqb, List, Option, Some, None, slice_get}
use Rattle.pool_types.specs.declared.raw.Raw.{Ghosts}
use Rattle.pool_types.specs.declared.values.Region.{Region}
use Rattle.regions.specs.Offices.{Desk}
use Rattle.step_local.specs.declared.frames.Local.{Local}
use Rattle.step_local.specs.Frames.{made}
use Rattle.step_runs.specs.declared.entry.Entry.{Entry}
use Rattle.step_runs.specs.Entries.{first_entry}
use Rattle.atomic_driver.specs.declared.seat.DriverSeat.{DriverSeat}
use Rattle.atomic_driver.specs.Rule.{key_by}
use Rattle.atomic_driver.specs.Seating.{IsPool}
use Rattle.pool_api.specs.Heaps.{entry_of, IsResting}
use Rattle.pool_api.specs.Tables.{Stand, IsHeapAt}

-- what is known of a heap: its local, and its entry
pub record Heap (D : Type 0) : Type 0 where
  pub local : Local
  pub entry : Entry D

-- the heaps of a thread, by the numbers of their pools; a pool that was not made has none
abbrev pub Heaps : Type 0 → Type 0
Heaps D = ℕ → Option (Heap D)

-- the same heaps, but the one of this pool
abbrev pub IsWithHeap : {D : Type 0} → Heaps D → ℕ → Heap D → Heaps D → Type 0
IsWithHeap heaps pool heap new = (other : ℕ) → new other ≡ cond (eqb other pool) (Some heap) (heaps other)

module _ {R : Type 0} {raw : Ghosts R} where
  abbrev pub heap_of : DriverSeat R raw → Heap (Desk R)
  heap_of x = record { local = x.local; entry = entry_of x }

  abbrev pub heap_in : Option (DriverSeat R raw) → Option (Heap (Desk R))
  heap_in None = None
  heap_in (Some x) = Some (heap_of x)

  abbrev pub heap_at : Option (Option (DriverSeat R raw)) → Option (Heap (Desk R))
  heap_at None = None
  heap_at (Some slot) = heap_in slot

  -- the heaps that stand there
  abbrev pub heaps_in : List (Option (DriverSeat R raw)) → Heaps (Desk R)
  heaps_in slots pool = heap_at (slice_get slots pool)

module _ {D : Type 0} where
  -- the heap of a pool that has made no turn
  abbrev pub first_heap : ℕ → Stand → Heap D
  first_heap thread s = record { local = made (key_by s.plan) thread; entry = first_entry (key_by s.plan) thread }

  abbrev pub first_in : ℕ → Option Stand → Option (Heap D)
  first_in thread None = None
  first_in thread (Some s) = Some (first_heap thread s)

  abbrev pub first_at : ℕ → Option (Option Stand) → Option (Heap D)
  first_at thread None = None
  first_at thread (Some slot) = first_in thread slot

  -- the heaps of a thread before its first line
  abbrev pub first_heaps : List (Option Stand) → ℕ → Heaps D
  first_heaps pools thread pool = first_at thread (slice_get pools pool)

module _ {R : Type 0} (out : R → List Region) (faults : R → ℕ) (got : R → ℕ → Option Region → R → Type 0)
    (passed : R → Region → Bool → R → Type 0) where
  -- the heap is the pool's one of this thread, and in no call
  pub record IsRested {raw : Ghosts R} (s : Stand) (thread : ℕ) (x : DriverSeat R raw) : Type 0 where
    pub heap : IsHeapAt out faults got passed s x
    pub rests : IsResting x.local
    pub entry : (entry_of x).seat ≡ thread
    pub seat : x.local.seat ≡ thread

  abbrev pub FitsIn : {raw : Ghosts R} → ℕ → Option Stand → Option (DriverSeat R raw) → Type 0
  FitsIn thread None None = Unit {0}
  FitsIn thread None (Some x) = ⊥
  FitsIn thread (Some s) None = ⊥
  FitsIn thread (Some s) (Some x) = IsRested s thread x

  abbrev pub FitsAt : {raw : Ghosts R} → ℕ → Option (Option Stand) → Option (Option (DriverSeat R raw)) → Type 0
  FitsAt thread None None = Unit {0}
  FitsAt thread None (Some slot) = ⊥
  FitsAt thread (Some slot) None = ⊥
  FitsAt thread (Some slot) (Some other) = FitsIn thread slot other

  -- the thread has a heap of each pool, in no call
  abbrev pub AreHeaps : {raw : Ghosts R} → List (Option Stand) → ℕ → List (Option (DriverSeat R raw)) → Type 0
  AreHeaps pools thread slots = (pool : ℕ) → FitsAt thread (slice_get pools pool) (slice_get slots pool)
