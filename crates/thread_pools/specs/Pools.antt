-- The heaps of each pool that was made, by the threads' numbers.
use Rattle.std.specs.Prelude.{◌≡◌, ℕ, List, [], Bool, Option, Some, None, length, slice_get}
use mathlib.Core.Option.{some}
use lib.ListN.{get_elem?}
use Rattle.pool_types.specs.declared.raw.Raw.{Ghosts}
use Rattle.pool_types.specs.declared.values.Region.{Region}
use Rattle.step_local.specs.Frames.{made}
use Rattle.step_runs.specs.Entries.{first_entry}
use Rattle.atomic_driver.specs.declared.seat.DriverSeat.{DriverSeat}
use Rattle.atomic_driver.specs.Rule.{key_by}
use Rattle.pool_api.specs.Heaps.{entry_of}
use Rattle.pool_api.specs.Tables.{Stand, IsHeapAt}
use Rattle.thread_pools.specs.declared.columns.Column.{Column}

module _ {R : Type 0} (out : R → List Region) (faults : R → ℕ) (got : R → ℕ → Option Region → R → Type 0)
    (passed : R → Region → Bool → R → Type 0) where
  -- the heap is the one of this number, of the table's pool, and has made no turn
  pub record IsFreshAt {raw : Ghosts R} (s : Stand) (seat : ℕ) (x : DriverSeat R raw) : Type 0 where
    pub heap : IsHeapAt out faults got passed s x
    pub fresh : x.local ≡ made (key_by s.plan) seat
    pub first : entry_of x ≡ first_entry (key_by s.plan) seat

module _ {R : Type 0} {raw : Ghosts R} (P : Stand → ℕ → DriverSeat R raw → Type 0) (count : ℕ) where
  -- a pool that was made has so many heaps, and this is so of each with its number; one that was not made has none
  abbrev pub ColumnOf : Option Stand → List (DriverSeat R raw) → Type 0
  ColumnOf None heaps = heaps ≡ []
  ColumnOf (Some s) heaps = (length heaps ≡ count)
      × ((i : ℕ) (x : DriverSeat R raw) → get_elem? heaps i ≡ some x → P s i x)

  abbrev pub ColumnAt : Option (Option Stand) → Option (Column R raw) → Type 0
  ColumnAt None None = Unit {0}
  ColumnAt None (Some column) = ⊥
  ColumnAt (Some slot) None = ⊥
  ColumnAt (Some slot) (Some column) = ColumnOf slot column.heaps.items

  -- each pool has its column
  abbrev pub HasColumns : List (Option Stand) → List (Column R raw) → Type 0
  HasColumns pools columns = (pool : ℕ) → ColumnAt (slice_get pools pool) (slice_get columns pool)
