-- The laws of ranges over runs of calls.
use Rattle.std.specs.Prelude.{◌≡◌, ℕ, ◌<◌, Bool, List, [], Option}
use Rattle.pool_types.specs.declared.policy.Limits.{Limits}
use Rattle.pool_types.specs.declared.policy.Policy.{Policy}
use Rattle.pool_types.specs.declared.values.Region.{Region}
use Rattle.pool_types.specs.Policies.{IsAllowed}
use Rattle.regions.specs.Offices.{Desk}
use Rattle.step_depot.specs.Steps.{key_of}
use Rattle.step_local.specs.declared.frames.Local.{Local}
use Rattle.step_local.specs.Course.{course}
use Rattle.step_runs.specs.declared.entry.Entry.{Entry}
use Rattle.step_runs.specs.Callbacks.{PoolRun, office_of}
use Rattle.step_runs.specs.Runs.{Silent}
use Rattle.step_laws.specs.Laws.{OnlySeatsStep}
use Rattle.step_ranges.specs.Laws.{AreRanged, LinksLead}
use Rattle.step_ranges.specs.Ranges.{NamesOrNone}
use Rattle.whole_runs.specs.Calls.{AreCalls}

module _ {R : Type 0} (out : R → List Region) (faults : R → ℕ) (got : R → ℕ → Option Region → R → Type 0)
    (passed : R → Region → Bool → R → Type 0) where
  -- each link that is loaded of a block in the cache leads to a block as long as its bin's, in the pool
  abbrev pub LinksOfCallsLead : Type 0
  LinksOfCallsLead =
      (policy : Policy) (limits : Limits) (raw : R) (words : List ℕ) (home : Option (Desk R))
      (entries : ℕ → Entry (Desk R)) → IsAllowed policy limits → out raw ≡ []
      → (run : PoolRun out faults got passed policy limits raw words home entries) → AreCalls run
      → OnlySeatsStep limits.seats entries → LinksLead run

  -- so each word holds what its kind may hold, and each seat's local carries what it may carry
  abbrev pub CallsHoldIndicesInRange : Type 0
  CallsHoldIndicesInRange =
      (policy : Policy) (limits : Limits) (raw : R) (words : List ℕ) (home : Option (Desk R))
      (entries : ℕ → Entry (Desk R)) → IsAllowed policy limits → out raw ≡ []
      → (run : PoolRun out faults got passed policy limits raw words home entries) → AreCalls run
      → OnlySeatsStep limits.seats entries → AreRanged (key_of policy limits) words entries

  -- and the word that a seat's next step names is one of the pool's
  abbrev pub CoursesOfCallsAreValid : Type 0
  CoursesOfCallsAreValid =
      (policy : Policy) (limits : Limits) (raw : R) (words : List ℕ) (home : Option (Desk R))
      (entries : ℕ → Entry (Desk R)) → IsAllowed policy limits → out raw ≡ []
      → (run : PoolRun out faults got passed policy limits raw words home entries) → AreCalls run
      → OnlySeatsStep limits.seats entries → (seat : ℕ) → seat < limits.seats → (l : Local) (desk : Option (Desk R))
      → Silent (office_of out faults got passed (key_of policy limits)) (entries seat).local (entries seat).desk l desk
      → NamesOrNone (key_of policy limits) (course l)
