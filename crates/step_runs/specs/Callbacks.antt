-- The office of a pool over its raw callback.
use Rattle.std.specs.Prelude.{ℕ, Bool, List, [], false, Option}
use Rattle.pool_types.specs.declared.policy.Limits.{Limits}
use Rattle.pool_types.specs.declared.policy.Policy.{Policy}
use Rattle.pool_types.specs.declared.values.Region.{Region}
use Rattle.pool_words.specs.declared.words.Key.{Key}
use Rattle.regions.specs.Offices.{Desk, desk_of}
use Rattle.regions.specs.Obtaining.{Obtains}
use Rattle.step_depot.specs.Steps.{key_of, asked_granules, Puts}
use Rattle.step_runs.specs.declared.entry.Entry.{Entry}
use Rattle.step_runs.specs.Runs.{Callback, Run}

module _ {R : Type 0} (out : R → List Region) (faults : R → ℕ) (got : R → ℕ → Option Region → R → Type 0)
    (passed : R → Region → Bool → R → Type 0) where
  -- the office of the pool of this key
  abbrev pub office_of : Key → Callback (Desk R)
  office_of k = record {
    asks = λ desk granules answer after. Obtains out faults got desk (asked_granules k granules) answer after;
    puts = λ desk first after. Puts out faults passed desk first after;
  }

  -- the states that a pool comes to that was made with this policy, these limits and this callback
  abbrev pub PoolRun : Policy → Limits → R → List ℕ → Option (Desk R) → (ℕ → Entry (Desk R)) → Type 0
  PoolRun policy limits raw words home entries = Run (office_of (key_of policy limits)) (key_of policy limits)
      (desk_of policy limits [] 0 false raw) words home entries
