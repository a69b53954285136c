-- The leaks of a pool in a state of a run.
use Rattle.std.specs.Prelude.{◌≡◌, ℕ, Bool, List, [], ◌∷◌, Contains, Option, ⊤}
use Rattle.pool_types.specs.declared.policy.Limits.{Limits}
use Rattle.pool_types.specs.declared.policy.Policy.{Policy}
use Rattle.pool_types.specs.declared.values.Leak.{Leak}
use Rattle.pool_types.specs.declared.values.Region.{Region}
use Rattle.pool_types.specs.Policies.{IsAllowed}
use Rattle.regions.specs.Offices.{Desk}
use Rattle.word_totals.specs.Leaking.{leaks_of}
use Rattle.step_depot.specs.Steps.{key_of}
use Rattle.step_local.specs.declared.frames.Local.{Local}
use Rattle.step_runs.specs.declared.entry.Entry.{Entry}
use Rattle.step_runs.specs.Callbacks.{PoolRun}
use Rattle.step_laws.specs.Laws.{OnlySeatsStep}
use Rattle.step_grants.specs.Grants.{IsNotEnded}

-- no grant stands at two places of the list
abbrev pub AreOnce : List Leak → Type 0
AreOnce [] = ⊤
AreOnce (x ∷ xs) = ((y : Leak) → Contains xs y → y.grant ≡ x.grant → ⊥) × AreOnce xs

-- each was granted and not ended, and is listed once
pub record LeaksFit {D : Type 0} (entries : ℕ → Entry D) (leaks : List Leak) : Type 0 where
  pub granted : (leak : Leak) → Contains leaks leak → IsNotEnded entries leak.grant
  pub once : AreOnce leaks

module _ {R : Type 0} (out : R → List Region) (faults : R → ℕ) (got : R → ℕ → Option Region → R → Type 0)
    (passed : R → Region → Bool → R → Type 0) where
  -- whatever the locals are that are read beside the words
  abbrev pub LeaksWereGranted : Type 0
  LeaksWereGranted =
      (policy : Policy) (limits : Limits) (raw : R) (words : List ℕ) (home : Option (Desk R))
      (entries : ℕ → Entry (Desk R)) (locals : List Local) → IsAllowed policy limits → out raw ≡ []
      → PoolRun out faults got passed policy limits raw words home entries → OnlySeatsStep limits.seats entries
      → LeaksFit entries (leaks_of (record { key = key_of policy limits; words = words; locals = locals }))
