-- The laws of machines.
use Rattle.std.specs.Prelude.{◌≡◌, ℕ, Bool, true, false, cond, eqb, List, Option, Some, None, slice_get}
use Rattle.pool_types.specs.declared.policy.Limits.{Limits}
use Rattle.pool_types.specs.declared.policy.Policy.{Policy}
use Rattle.pool_types.specs.declared.values.Region.{Region}
use Rattle.regions.specs.Offices.{Desk}
use Rattle.step_depot.specs.Steps.{Stock, key_of}
use Rattle.step_local.specs.declared.frames.Local.{Local}
use Rattle.step_runs.specs.declared.entry.Entry.{Entry}
use Rattle.step_runs.specs.Callbacks.{office_of, PoolRun}
use Rattle.step_runs.specs.Places.{Carry, away, in_slot, in_hand, carry_of}
use Rattle.step_runs.specs.Runs.{Silent}
use Rattle.step_core.specs.Machines.{Machine}
use Rattle.machine_laws.specs.Reached.{IsReached}

-- the office lies at home where no seat has it, and else its owner has it
abbrev pub home_at : {D : Type 0} → Option ℕ → D → Option D
home_at None desk = Some desk
home_at (Some owner) desk = None

abbrev pub desk_at : {D : Type 0} → Option ℕ → D → ℕ → Option D
desk_at None desk seat = None
desk_at (Some owner) desk seat = cond (eqb owner seat) (Some desk) None

-- it is out of its slot where its owner has it in hand
abbrev pub is_in_hand : Carry → Bool
is_in_hand away = false
is_in_hand in_slot = false
is_in_hand in_hand = true

abbrev pub is_out_with : Option Local → Bool
is_out_with None = false
is_out_with (Some l) = is_in_hand (carry_of l.at)

abbrev pub is_out_by : Option ℕ → List Local → Bool
is_out_by None locals = false
is_out_by (Some owner) locals = is_out_with (slice_get locals owner)

module _ {R : Type 0} (out : R → List Region) (faults : R → ℕ) (got : R → ℕ → Option Region → R → Type 0)
    (passed : R → Region → Bool → R → Type 0) where
  -- these words, this office and these seats are those of a state of a run
  pub record IsStateOfRun (policy : Policy) (limits : Limits) (raw : R) (stock : Stock R) (locals : List Local) : Type 0 where
    pub owner : Option ℕ
    pub entries : ℕ → Entry (Desk R)
    pub key_is : stock.key ≡ key_of policy limits
    pub run : PoolRun out faults got passed policy limits raw stock.words (home_at owner stock.desk) entries
    pub seats : (seat : ℕ) (l : Local) → slice_get locals seat ≡ Some l
        → Silent (office_of out faults got passed (key_of policy limits)) (entries seat).local (entries seat).desk l
        (desk_at owner stock.desk seat)
    pub out_is : stock.out ≡ is_out_by owner locals

  abbrev pub MachinesRun : Type 0
  MachinesRun =
      (policy : Policy) (limits : Limits) (raw : R) (m : Machine R)
      → IsReached out faults got passed policy limits raw m → IsStateOfRun policy limits raw m.stock m.locals
