-- A request to one heap, or to none.
use Rattle.std.specs.Prelude.{◌≡◌, ℕ, List, Option, Some, None, Bool, Ok}
use Rattle.pool_types.specs.declared.raw.Raw.{Ghosts}
use Rattle.pool_types.specs.declared.values.Request.{Request}
use Rattle.step_local.specs.declared.frames.Local.{Local}
use Rattle.step_runs.specs.declared.entry.Entry.{Entry}
use Rattle.atomic_driver.specs.declared.seat.DriverSeat.{DriverSeat}
use Rattle.pool_api.specs.Heaps.{entry_of, CalledBy}
use Rattle.thread_calls.specs.declared.calls.Said.{Said}

module _ {D : Type 0} where
  -- the heap's call is answered so
  abbrev pub IsAnswered : Local → Entry D → Request → Said → Local → Entry D → Type 0
  IsAnswered l e request Said.Gone now after = ⊥
  IsAnswered l e request (Said.Answered answer) now after = CalledBy l e request (Ok answer) now after

module _ {R : Type 0} {raw : Ghosts R} where
  -- what a request comes to where there is a heap, or none
  abbrev pub AsksSlot : Option (DriverSeat R raw) → Request → Said → Option (DriverSeat R raw) → Type 0
  AsksSlot None request said new = (said ≡ Said.Gone) × (new ≡ None)
  AsksSlot (Some x) request said new = (y : DriverSeat R raw) × (new ≡ Some y)
      × IsAnswered x.local (entry_of x) request said y.local (entry_of y)
