-- The seats of a pool, as they are handed out and come back.
use Rattle.std.specs.Prelude.{◌≡◌, ℕ, ◌+◌, ◌<◌, List, [], ◌∷◌, length, Bool, Option, Some, None}
use mathlib.Core.Option.{some}
use lib.ListN.{get_elem?}
use Rattle.pool_types.specs.declared.policy.CreateError.{CreateError}
use Rattle.pool_types.specs.declared.policy.Limits.{Limits}
use Rattle.pool_types.specs.declared.policy.Policy.{Policy}
use Rattle.pool_types.specs.declared.raw.Raw.{Ghosts}
use Rattle.pool_types.specs.declared.values.Region.{Region}
use Rattle.pool_words.specs.declared.words.Key.{Key}
use Rattle.regions.specs.Offices.{Desk}
use Rattle.step_local.specs.Frames.{made}
use Rattle.step_runs.specs.declared.entry.Entry.{Entry}
use Rattle.step_runs.specs.Entries.{first_entry}
use Rattle.atomic_table.specs.Seated.{TableId}
use Rattle.atomic_table.specs.Table.{Me}
use Rattle.atomic_driver.specs.declared.rule.Plan.{Plan}
use Rattle.atomic_driver.specs.declared.rule.View.{View}
use Rattle.atomic_driver.specs.declared.pool.Shared.{Shared}
use Rattle.atomic_driver.specs.declared.seat.DriverSeat.{DriverSeat}
use Rattle.atomic_driver.specs.Rule.{key_by, plain, first_entries, IsTable}
use Rattle.atomic_driver.specs.Steps.{own_of, PoolDriven}

-- the entries behind the first one
abbrev pub others_of : {D : Type 0} → List (Entry D) → List (Entry D)
others_of [] = []
others_of (e ∷ entries) = entries

-- the entries are those of seats in a row, from this one on
abbrev pub IsFrom : {D : Type 0} → ℕ → List (Entry D) → Type 0
IsFrom {D} seat entries = (i : ℕ) (e : Entry D) → get_elem? entries i ≡ some e → e.seat ≡ seat + i

module _ {R : Type 0} (out : R → List Region) (faults : R → ℕ) (got : R → ℕ → Option Region → R → Type 0)
    (passed : R → Region → Bool → R → Type 0) where
  -- a new seat of the pool, at its table, with the place of its number: it has made no turn
  pub record IsSeat {raw : Ghosts R} (table : TableId) (plan : Plan) (seat : ℕ) (x : DriverSeat R raw) : Type 0 where
    pub same_table : x.place.table_id ≡ table
    pub same_plan : x.plan ≡ plan
    pub number : x.local.seat ≡ seat
    pub fresh : x.local ≡ made (key_by plan) seat
    pub first : own_of (key_by plan) x.place.me.0.entries ≡ first_entry (key_by plan) seat
    pub entry : (own_of (key_by plan) x.place.me.0.entries).seat ≡ seat
    pub driven : PoolDriven out faults got passed plan x.local x.office x.place.me

  -- they are the pool's seats, each at its number
  abbrev pub AreSeats : {raw : Ghosts R} → TableId → Plan → List (DriverSeat R raw) → Type 0
  AreSeats {raw} table plan xs = (i : ℕ) (x : DriverSeat R raw) → get_elem? xs i ≡ some x → IsSeat table plan i x

  -- the same of a seat that has made turns: its place has the entry of its number
  pub record IsOwn {raw : Ghosts R} (table : TableId) (plan : Plan) (seat : ℕ) (x : DriverSeat R raw) : Type 0 where
    pub same_table : x.place.table_id ≡ table
    pub same_plan : x.plan ≡ plan
    pub entry : (own_of (key_by plan) x.place.me.0.entries).seat ≡ seat
    pub driven : PoolDriven out faults got passed plan x.local x.office x.place.me

  abbrev pub AreOwn : {raw : Ghosts R} → TableId → Plan → List (DriverSeat R raw) → Type 0
  AreOwn {raw} table plan xs = (i : ℕ) (x : DriverSeat R raw) → get_elem? xs i ≡ some x → IsOwn table plan i x

  -- a pool whose places are all handed out
  pub record IsPool (s : Shared R) : Type 0 where
    pub same_plan : s.board.shared.key ≡ s.plan
    pub key_is : s.key ≡ key_by s.plan
    pub some : 0 < (key_by s.plan).seats
    pub sizes : IsTable s.board.shared.table_id (key_by s.plan)
    pub same_table : s.spare.table_id ≡ s.board.shared.table_id
    pub spent : s.spare.me ≡ (plain [], [])

  -- the pool's seats, each at its number
  pub record HasSeats {raw : Ghosts R} (s : Shared R) (xs : List (DriverSeat R raw)) : Type 0 where
    pub count : length xs ≡ (key_by s.plan).seats
    pub each : AreSeats s.board.shared.table_id s.plan xs

  -- the pool's seats, with the places of their numbers, whatever turns they have made
  pub record HasOwn {raw : Ghosts R} (s : Shared R) (xs : List (DriverSeat R raw)) : Type 0 where
    pub count : length xs ≡ (key_by s.plan).seats
    pub each : AreOwn s.board.shared.table_id s.plan xs
