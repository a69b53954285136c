-- The heaps of a table's pool.
use Rattle.std.specs.Prelude.{◌≡◌, ℕ, Bool, List, Option}
use mathlib.Core.Option.{some}
use lib.ListN.{get_elem?}
use Rattle.pool_types.specs.declared.raw.Raw.{Ghosts}
use Rattle.pool_types.specs.declared.values.Region.{Region}
use Rattle.atomic_driver.specs.declared.seat.DriverSeat.{DriverSeat}
use Rattle.pool_api.specs.Tables.{Stand, IsHeapAt}

module _ {R : Type 0} (out : R → List Region) (faults : R → ℕ) (got : R → ℕ → Option Region → R → Type 0)
    (passed : R → Region → Bool → R → Type 0) where
  -- each heap is one of the table's pool
  abbrev pub AreHeapsAt : {raw : Ghosts R} → Stand → List (DriverSeat R raw) → Type 0
  AreHeapsAt {raw} s heaps = (i : ℕ) (x : DriverSeat R raw) → get_elem? heaps i ≡ some x
      → IsHeapAt out faults got passed s x
