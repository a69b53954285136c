-- Where the office lies while no seat has taken it.
use Rattle.std.specs.Prelude.{◌≡◌, ℕ, Bool, List, Option, Some, None}
use Rattle.pool_types.specs.declared.policy.Limits.{Limits}
use Rattle.pool_types.specs.declared.policy.Policy.{Policy}
use Rattle.pool_types.specs.declared.values.Region.{Region}
use Rattle.regions.specs.Offices.{Desk}
use Rattle.step_depot.specs.Steps.{key_of}
use Rattle.step_local.specs.declared.frames.Local.{Local}
use Rattle.step_runs.specs.declared.entry.Entry.{Entry}
use Rattle.step_runs.specs.Callbacks.{office_of, PoolRun}
use Rattle.step_runs.specs.Places.{away, carry_of}
use Rattle.step_runs.specs.Runs.{Silent}

module _ {R : Type 0} (out : R → List Region) (faults : R → ℕ) (got : R → ℕ → Option Region → R → Type 0)
    (passed : R → Region → Bool → R → Type 0) where
  -- a seat that has not taken the office had not taken it at its last step
  abbrev pub SilenceLeavesAway : Type 0
  SilenceLeavesAway =
      (policy : Policy) (limits : Limits) (l : Local) (desk : Option (Desk R)) (now : Local) (after : Option (Desk R))
      → Silent (office_of out faults got passed (key_of policy limits)) l desk now after → carry_of now.at ≡ away
      → carry_of l.at ≡ away

  -- where no seat has taken the office, it lies at home
  abbrev pub OfficeLiesAtHome : Type 0
  OfficeLiesAtHome =
      (policy : Policy) (limits : Limits) (raw : R) (words : List ℕ) (home : Option (Desk R))
      (entries : ℕ → Entry (Desk R)) → PoolRun out faults got passed policy limits raw words home entries
      → ((seat : ℕ) → (entries seat).desk ≡ None) → (desk : Desk R) × (home ≡ Some desk)
