-- The laws of what seats grant and free.
use Rattle.std.specs.Prelude.{◌≡◌, ℕ, Bool, List, ◌++◌, Option}
use Rattle.pool_types.specs.declared.policy.Limits.{Limits}
use Rattle.pool_types.specs.declared.policy.Policy.{Policy}
use Rattle.pool_types.specs.declared.values.Region.{Region}
use Rattle.pool_words.specs.declared.words.Key.{Key}
use Rattle.regions.specs.Offices.{Desk}
use Rattle.step_depot.specs.Steps.{key_of}
use Rattle.step_local.specs.declared.frames.Object.{Object}
use Rattle.step_runs.specs.declared.entry.Entry.{Entry}
use Rattle.step_runs.specs.Callbacks.{PoolRun}
use Rattle.path_laws.specs.Owing.{owed_grants, owed_frees}
use Rattle.path_laws.specs.Pays.{Paid}

-- A seat's grants and frees are those of its answers, and behind them those of the call that has no answer yet.
pub record IsPaid {D : Type 0} (k : Key) (e : Entry D) : Type 0 where
  pub grants : List Object
  pub frees : List Object
  pub paid : Paid k e.answers grants frees
  pub grants_are : e.grants ≡ grants ++ owed_grants e.local
  pub frees_are : e.frees ≡ frees ++ owed_frees e.local

module _ {R : Type 0} (out : R → List Region) (faults : R → ℕ) (got : R → ℕ → Option Region → R → Type 0)
    (passed : R → Region → Bool → R → Type 0) where
  -- in each state of a run that holds of each seat
  abbrev pub RunsPay : Type 0
  RunsPay =
      (policy : Policy) (limits : Limits) (raw : R) (words : List ℕ) (home : Option (Desk R))
      (entries : ℕ → Entry (Desk R)) → PoolRun out faults got passed policy limits raw words home entries
      → (seat : ℕ) → IsPaid (key_of policy limits) (entries seat)
