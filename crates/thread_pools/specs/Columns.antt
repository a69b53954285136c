-- The heaps of each pool, and the heaps of each thread.
use Rattle.std.specs.Prelude.{◌≡◌, List, [], ◌++◌, Option, Some, None, option_to_list}
use Rattle.pool_types.specs.declared.raw.Raw.{Ghosts}
use Rattle.atomic_driver.specs.declared.seat.DriverSeat.{DriverSeat}
use Rattle.thread_pools.specs.declared.columns.Column.{Column}

-- the last of a list is taken, if there is one
pub record TakesLast {X : Type 0} (old : List X) (taken : Option X) (new : List X) : Type 0 where
  pub split : old ≡ new ++ option_to_list taken
  pub none : taken ≡ None → old ≡ []

module _ {R : Type 0} {raw : Ghosts R} where
  -- the column's last heap is taken, where there is a column
  abbrev pub TakesAt : Option (Column R raw) → Option (Option (DriverSeat R raw)) → Option (Column R raw) → Type 0
  TakesAt None taken new = (taken ≡ None) × (new ≡ None)
  TakesAt (Some old) taken new = (heap : Option (DriverSeat R raw)) × (left : Column R raw) × (taken ≡ Some heap)
      × (new ≡ Some left) × TakesLast old.heaps.items heap left.heaps.items

  -- the heap stands behind the others of its column, where there is a column
  abbrev pub PutsAt : Option (Column R raw) → Option (Option (DriverSeat R raw)) → Option (Column R raw) → Type 0
  PutsAt None given new = new ≡ None
  PutsAt (Some old) given new = (heap : Option (DriverSeat R raw)) × (all : Column R raw) × (given ≡ Some heap)
      × (new ≡ Some all) × (all.heaps.items ≡ old.heaps.items ++ option_to_list heap)
