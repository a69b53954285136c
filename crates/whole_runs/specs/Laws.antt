-- The laws of runs of calls.
use Rattle.std.specs.Prelude.{◌≡◌, ℕ, ◌<◌, Bool, List, [], Option}
use Rattle.pool_types.specs.declared.policy.Limits.{Limits}
use Rattle.pool_types.specs.declared.policy.Policy.{Policy}
use Rattle.pool_types.specs.declared.values.Region.{Region}
use Rattle.pool_types.specs.Policies.{IsAllowed}
use Rattle.regions.specs.Offices.{Desk}
use Rattle.word_laws.specs.Memory.{memory}
use Rattle.step_depot.specs.Steps.{key_of}
use Rattle.step_local.specs.declared.frames.Local.{Local}
use Rattle.step_runs.specs.declared.entry.Entry.{Entry}
use Rattle.step_runs.specs.Callbacks.{PoolRun, office_of}
use Rattle.step_runs.specs.Runs.{Silent}
use Rattle.step_laws.specs.Laws.{OnlySeatsStep}
use Rattle.pool_laws.specs.Laws.{HoldsTogether}
use Rattle.pool_laws.specs.Wholes.{Whole, WholeGood}
use Rattle.whole_runs.specs.Calls.{AreCalls, IsSilentCall}
use Rattle.whole_runs.specs.States.{AreShort, IsWhole, SeatStands}

module _ {R : Type 0} (out : R → List Region) (faults : R → ℕ) (got : R → ℕ → Option Region → R → Type 0)
    (passed : R → Region → Bool → R → Type 0) where
  -- Each state that a pool comes to by calls of its seats, in any order of their steps, is one that the whole's own
  -- steps lead to. The pool can be made with this policy and these limits, and its callback had no region out at first.
  abbrev pub RunsAreGood : Type 0
  RunsAreGood =
      (policy : Policy) (limits : Limits) (raw : R) (words : List ℕ) (home : Option (Desk R))
      (entries : ℕ → Entry (Desk R)) → IsAllowed policy limits → out raw ≡ []
      → (run : PoolRun out faults got passed policy limits raw words home entries) → AreCalls run
      → OnlySeatsStep limits.seats entries → IsWhole (key_of policy limits) words (λ seat. (entries seat).local)

  -- what holds of the words then
  pub record WordsHold (policy : Policy) (limits : Limits) (words : List ℕ) : Type 0 where
    pub whole : Whole
    pub words' : whole.pool.mem ≡ memory (key_of policy limits) words
    pub good : WholeGood (key_of policy limits) whole
    pub together : HoldsTogether (key_of policy limits) whole

  abbrev pub RunsHoldTogether : Type 0
  RunsHoldTogether =
      (policy : Policy) (limits : Limits) (raw : R) (words : List ℕ) (home : Option (Desk R))
      (entries : ℕ → Entry (Desk R)) → IsAllowed policy limits → out raw ≡ []
      → (run : PoolRun out faults got passed policy limits raw words home entries) → AreCalls run
      → OnlySeatsStep limits.seats entries → WordsHold policy limits words

  -- what holds while a seat's local has come so far, behind its last step on a word and before its next one
  pub record IsBetween (policy : Policy) (limits : Limits) (words : List ℕ) (seat : ℕ) (l : Local) : Type 0 where
    pub whole : Whole
    pub words' : whole.pool.mem ≡ memory (key_of policy limits) words
    pub good : WholeGood (key_of policy limits) whole
    pub stands : SeatStands (key_of policy limits) whole seat l
    pub short : AreShort (key_of policy limits) whole.office

  -- Between any two steps the words are those of a good whole, to which the seat is tied that comes next.
  abbrev pub SeatsStandBetween : Type 0
  SeatsStandBetween =
      (policy : Policy) (limits : Limits) (raw : R) (words : List ℕ) (home : Option (Desk R))
      (entries : ℕ → Entry (Desk R)) → IsAllowed policy limits → out raw ≡ []
      → (run : PoolRun out faults got passed policy limits raw words home entries) → AreCalls run
      → OnlySeatsStep limits.seats entries → (seat : ℕ) → seat < limits.seats → (l : Local) (desk : Option (Desk R))
      → (silent : Silent (office_of out faults got passed (key_of policy limits)) (entries seat).local
      (entries seat).desk l desk) → IsSilentCall silent → IsBetween policy limits words seat l
