-- The machines that calls, resets and turns lead to.
use Rattle.std.specs.Prelude.{ℕ, Bool, List, Option}
use Rattle.pool_types.specs.declared.policy.Limits.{Limits}
use Rattle.pool_types.specs.declared.policy.Policy.{Policy}
use Rattle.pool_types.specs.declared.values.Region.{Region}
use Rattle.pool_types.specs.declared.values.Request.{Request}
use Rattle.pool_types.specs.declared.values.Turn.{Turn}
use Rattle.step_core.specs.Machines.{Machine, first_machine}
use Rattle.step_core.specs.Resets.{reset_begun, ResetTurns}
use Rattle.step_core.specs.Turns.{begun_in, Turns}

module _ {R : Type 0} (out : R → List Region) (faults : R → ℕ) (got : R → ℕ → Option Region → R → Type 0)
    (passed : R → Region → Bool → R → Type 0) (policy : Policy) (limits : Limits) (raw : R) where
  pub data IsReached : Machine R → Type 0 where
    made : IsReached (first_machine policy limits raw)
    begun : {m : Machine R} → IsReached m → (seat : ℕ) (request : Request) → IsReached (begun_in m seat request).0
    turned : {m new : Machine R} → IsReached m → (seat : ℕ) (turn : Turn)
        → Turns out faults got passed m seat turn new → IsReached new
    reset : {m : Machine R} → IsReached m → IsReached (reset_begun m).0
    reset_turned : {m new : Machine R} → IsReached m → (done : Bool) → ResetTurns out faults got passed m done new
        → IsReached new
