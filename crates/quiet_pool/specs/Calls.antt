-- What the calls of a quiet pool need and answer.
use Rattle.std.specs.Prelude.{◌≡◌, ℕ, ◌<◌, ◌≤◌, Bool, List, [], ◌∷◌, length, map, Option, Some, None}
use mathlib.Core.Option.{some}
use lib.ListN.{get_elem?}
use Rattle.pool_types.specs.declared.raw.Raw.{Ghosts}
use Rattle.pool_types.specs.declared.values.Region.{Region}
use Rattle.pool_words.specs.declared.words.Key.{Key}
use Rattle.regions.specs.Offices.{Desk}
use Rattle.step_runs.specs.declared.entry.Entry.{Entry}
use Rattle.atomic_table.specs.Seated.{TableId}
use Rattle.step_core.specs.Machines.{lowest_in_call}
use Rattle.atomic_driver.specs.declared.pool.Shared.{Shared}
use Rattle.atomic_driver.specs.declared.rule.Plan.{Plan}
use Rattle.atomic_driver.specs.declared.seat.DriverSeat.{DriverSeat}
use Rattle.atomic_driver.specs.Rule.{key_by, plain}
use Rattle.atomic_driver.specs.Seating.{IsPool}
use Rattle.atomic_driver.specs.Steps.{PoolDriven}
use Rattle.pool_api.specs.Heaps.{entry_of}
use Rattle.quiet_pool.specs.declared.refusals.QuietCause.{QuietCause}
use Rattle.quiet_pool.specs.declared.refusals.QuietCause.TheVariants.{MissingHeaps, CallBegun}
use Rattle.quiet_pool.specs.Held.{locals_of}
use Rattle.quiet_pool.specs.Quiet.{Quiet, AreIdle}

-- the entries of heaps
abbrev pub entries_of : {R : Type 0} {raw : Ghosts R} → List (DriverSeat R raw) → List (Entry (Desk R))
entries_of heaps = map entry_of heaps

module _ {R : Type 0} (out : R → List Region) (faults : R → ℕ) (got : R → ℕ → Option Region → R → Type 0)
    (passed : R → Region → Bool → R → Type 0) where
  -- the heap of this number, of a pool with this table that was made so
  pub record IsHeapAt {raw : Ghosts R} (table : TableId) (plan : Plan) (seat : ℕ) (x : DriverSeat R raw) : Type 0 where
    pub same_table : x.place.table_id ≡ table
    pub same_plan : x.plan ≡ plan
    pub number : (entry_of x).seat ≡ seat
    pub driven : PoolDriven out faults got passed x.plan x.local x.office x.place.me

  abbrev pub AreHeapsAt : {raw : Ghosts R} → TableId → Plan → List (DriverSeat R raw) → Type 0
  AreHeapsAt {raw} table plan heaps =
      (seat : ℕ) (x : DriverSeat R raw) → get_elem? heaps seat ≡ some x → IsHeapAt table plan seat x

  -- heaps of the pool, each at its number
  pub record AreHeaps {raw : Ghosts R} (s : Shared R) (heaps : List (DriverSeat R raw)) : Type 0 where
    pub most : length heaps ≤ (key_by s.plan).seats
    pub each : AreHeapsAt s.board.shared.table_id s.plan heaps

  -- the pool made quiet: its seats are as the heaps were
  pub record IsMadeQuiet {raw : Ghosts R} (s : Shared R) (heaps : List (DriverSeat R raw)) (q : Quiet R) : Type 0 where
    pub all : length heaps ≡ (key_by s.plan).seats
    pub none : lowest_in_call (locals_of heaps) ≡ None
    pub plan : q.plan ≡ s.plan
    pub locals : q.locals ≡ locals_of heaps
    pub entries : q.entries ≡ entries_of heaps

  -- the pool and its heaps again, each at its number
  pub record IsResumed {raw : Ghosts R} (q : Quiet R) (s : Shared R) (heaps : List (DriverSeat R raw)) : Type 0 where
    pub pool : IsPool out faults got passed s
    pub plan : s.plan ≡ q.plan
    pub count : length heaps ≡ (key_by q.plan).seats
    pub each : AreHeapsAt s.board.shared.table_id s.plan heaps
    pub locals : locals_of heaps ≡ q.locals
    pub entries : entries_of heaps ≡ q.entries
    pub idle : AreIdle (locals_of heaps)

-- all heaps are there, and none is in a call
abbrev pub IsAllIdle : {R : Type 0} {raw : Ghosts R} → Shared R → List (DriverSeat R raw) → Type 0
IsAllIdle s heaps = (length heaps ≡ (key_by s.plan).seats) × (lowest_in_call (locals_of heaps) ≡ None)

-- each heap has the place with its entry
abbrev pub HavePlaces : {R : Type 0} {raw : Ghosts R} → TableId → Key → List (Entry (Desk R)) → List (DriverSeat R raw)
    → Type 0
HavePlaces {R} {raw} table k entries heaps =
    (i : ℕ) (x : DriverSeat R raw) (e : Entry (Desk R)) → get_elem? heaps i ≡ some x → get_elem? entries i ≡ some e
    → (x.place.table_id ≡ table) × (x.place.me ≡ (plain (e ∷ []), []))

-- why a pool is not made quiet: fewer heaps are given than were made; else a seat is in a call, the lowest such
abbrev pub IsCause : {R : Type 0} {raw : Ghosts R} → Shared R → List (DriverSeat R raw) → QuietCause → Type 0
IsCause s heaps (MissingHeaps given made) =
    (length heaps < (key_by s.plan).seats) × (given ≡ length heaps) × (made ≡ (key_by s.plan).seats)
IsCause s heaps (CallBegun seat) =
    (length heaps ≡ (key_by s.plan).seats) × (lowest_in_call (locals_of heaps) ≡ Some seat)
