-- The laws of ranges over runs.
use Rattle.std.specs.Prelude.{Bool, List, Option, ℕ, ⊤, ◌<◌}
use Rattle.pool_types.specs.Policies.{IsAllowed}
use Rattle.pool_types.specs.declared.policy.Limits.{Limits}
use Rattle.pool_types.specs.declared.policy.Policy.{Policy}
use Rattle.pool_types.specs.declared.values.Region.{Region}
use Rattle.regions.specs.Offices.{Desk}
use Rattle.pool_words.specs.Actions.{finds}
use Rattle.pool_words.specs.declared.words.Key.{Key}
use Rattle.step_depot.specs.Steps.{key_of}
use Rattle.step_local.specs.Course.{course}
use Rattle.step_local.specs.declared.frames.Local.{Local}
use Rattle.step_runs.specs.Callbacks.{PoolRun, office_of}
use Rattle.step_runs.specs.Runs.{Callback, Run, Silent}
use Rattle.step_runs.specs.declared.entry.Entry.{Entry}
use Rattle.step_laws.specs.Laws.{OnlySeatsStep}
use Rattle.step_ranges.specs.Locals.{LeadsAt, LocalFits}
use Rattle.step_ranges.specs.Ranges.{Ranged}
use Rattle.word_laws.specs.Memory.{memory}
use Rattle.step_runs.specs.Runs.Run.{opened, stepped}
use Rattle.step_ranges.specs.Ranges.{NamesOrNone}

-- each link that a step of the run loaded of a block in the cache led to a block as long as its bin's, in the pool
abbrev pub LinksLead : {D : Type 0} {c : Callback D} {k : Key} {first : D} {words : List ℕ} {home : Option D}
    {entries : ℕ → Entry D} → Run c k first words home entries → Type 0
LinksLead opened = ⊤
LinksLead {k = k} (stepped {words = words} run seat l desk silent word) =
    LinksLead run × LeadsAt k l l.at (finds k words (course l))

-- each word holds what its kind may hold, and each seat's local carries what it may carry
pub record AreRanged {D : Type 0} (k : Key) (row : List ℕ) (entries : ℕ → Entry D) : Type 0 where
  pub words : Ranged k (memory k row)
  pub locals : (seat : ℕ) → seat < k.seats → LocalFits k (entries seat).local

module _ {R : Type 0} (out : R → List Region) (faults : R → ℕ) (got : R → ℕ → Option Region → R → Type 0)
    (passed : R → Region → Bool → R → Type 0) where
  -- In each state that a pool comes to that can be made with this policy and these limits, whatever its seats begin
  -- and however their steps lie between each other.
  abbrev pub WordsHoldIndicesInRange : Type 0
  WordsHoldIndicesInRange =
      (policy : Policy) (limits : Limits) (raw : R) (words : List ℕ) (home : Option (Desk R))
      (entries : ℕ → Entry (Desk R)) → IsAllowed policy limits
      → (run : PoolRun out faults got passed policy limits raw words home entries) → LinksLead run
      → OnlySeatsStep limits.seats entries → AreRanged (key_of policy limits) words entries

  -- The word that a seat's next step names is one of the pool's, also between two of its steps. One step names a word
  -- that is none: a seat that gives back a region which no slot has empties the slot behind the last, which changes
  -- nothing.
  abbrev pub CourseIsValid : Type 0
  CourseIsValid =
      (policy : Policy) (limits : Limits) (raw : R) (words : List ℕ) (home : Option (Desk R))
      (entries : ℕ → Entry (Desk R)) → IsAllowed policy limits
      → (run : PoolRun out faults got passed policy limits raw words home entries) → LinksLead run
      → OnlySeatsStep limits.seats entries → (seat : ℕ) → seat < limits.seats → (l : Local) (desk : Option (Desk R))
      → Silent (office_of out faults got passed (key_of policy limits)) (entries seat).local (entries seat).desk l desk
      → NamesOrNone (key_of policy limits) (course l)
