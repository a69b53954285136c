-- A pool's table, and the heaps that step on it.
use Rattle.std.specs.Prelude.{◌≡◌, ℕ, ◌<◌, Bool, List, [], Option}
use Rattle.atomic_table.specs.Seated.{TableId}
use Rattle.pool_types.specs.declared.raw.Raw.{Ghosts}
use Rattle.pool_types.specs.declared.values.Region.{Region}
use Rattle.atomic_driver.specs.declared.pool.Shared.{Shared}
use Rattle.atomic_driver.specs.declared.rule.Plan.{Plan}
use Rattle.atomic_driver.specs.declared.seat.DriverSeat.{DriverSeat}
use Rattle.atomic_driver.specs.Rule.{key_by, plain, IsTable}
use Rattle.atomic_driver.specs.Steps.{PoolDriven}
use Rattle.pool_api.specs.declared.tables.Rest.{Rest}

-- which table it is, and what its pool was made with
pub record Stand : Type 0 where
  pub table : TableId
  pub plan : Plan

abbrev pub stand_of : {R : Type 0} → Shared R → Stand
stand_of s = record { table = s.board.shared.table_id; plan = s.board.shared.key }

-- what is left of the table's pool, whose places are all handed out
pub record IsRest {R : Type 0} (s : Stand) (rest : Rest R) : Type 0 where
  pub same_plan : s.plan ≡ rest.plan
  pub key_is : rest.key ≡ key_by rest.plan
  pub some : 0 < (key_by rest.plan).seats
  pub sizes : IsTable s.table (key_by rest.plan)
  pub same_table : rest.spare.table_id ≡ s.table
  pub spent : rest.spare.me ≡ (plain [], [])

module _ {R : Type 0} (out : R → List Region) (faults : R → ℕ) (got : R → ℕ → Option Region → R → Type 0)
    (passed : R → Region → Bool → R → Type 0) where
  -- the heap is one of the table's pool
  pub record IsHeapAt {raw : Ghosts R} (s : Stand) (x : DriverSeat R raw) : Type 0 where
    pub same_table : x.place.table_id ≡ s.table
    pub same_plan : x.plan ≡ s.plan
    pub sizes : IsTable s.table (key_by s.plan)
    pub driven : PoolDriven out faults got passed x.plan x.local x.office x.place.me
