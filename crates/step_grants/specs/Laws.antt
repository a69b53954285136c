-- The laws of grants over runs.
use Rattle.std.specs.Prelude.{◌≡◌, ℕ, ◌-◌, Bool, List, Option, Some}
use Rattle.pool_types.specs.declared.policy.Limits.{Limits}
use Rattle.pool_types.specs.declared.policy.Policy.{Policy}
use Rattle.pool_types.specs.declared.values.Grant.{Grant}
use Rattle.pool_types.specs.declared.values.Region.{Region}
use Rattle.pool_types.specs.Policies.{IsAllowed}
use Rattle.regions.specs.Offices.{Desk}
use Rattle.pool_words.specs.Words.{marks}
use Rattle.word_laws.specs.Memory.{memory}
use Rattle.step_depot.specs.Steps.{key_of}
use Rattle.step_runs.specs.declared.entry.Entry.{Entry}
use Rattle.step_runs.specs.Callbacks.{office_of, PoolRun}
use Rattle.step_laws.specs.Laws.{OnlySeatsStep, RunsOn}
use Rattle.step_grants.specs.Grants.{lasts_of, frees_of, IsAt, AreApart, NeverReturn, StayBelow, grant_in, InOrder}
use Rattle.step_grants.specs.Grants.{EndOnce, IsNotEnded}
use Rattle.step_grants.specs.Named.{named_marks, named_lasts}

-- a pool of two seats, of which the first has made three grants and the second one
abbrev pub NamedGrantsStand : Type 0
NamedGrantsStand = AreApart 2 named_marks named_lasts

-- every grant of the pool: the seats' lists have them in order, and what was ended was in them
pub record AreDistinct {D : Type 0} (seats : ℕ) (words : ℕ → ℕ) (entries : ℕ → Entry D) : Type 0 where
  pub order : (seat : ℕ) → InOrder seat (lasts_of entries seat) (entries seat).grants
  -- no two places of the lists have one grant
  pub distinct : (seat i other j : ℕ) (grant : Grant) → grant_in (entries seat).grants i ≡ Some grant
      → grant_in (entries other).grants j ≡ Some grant → (seat ≡ other) × (i ≡ j)
  pub ended : EndOnce seats words (lasts_of entries) (frees_of entries)
  -- what was ended was granted
  pub granted : (seat i : ℕ) (grant : Grant) → grant_in (entries seat).frees i ≡ Some grant
      → grant_in (entries grant.seat).grants (grant.number - 1) ≡ Some grant
  -- what a mark names was granted, and was not ended
  pub named : (u : ℕ) (grant : Grant) → IsAt words grant u → IsNotEnded entries grant

module _ {R : Type 0} (out : R → List Region) (faults : R → ℕ) (got : R → ℕ → Option Region → R → Type 0)
    (passed : R → Region → Bool → R → Type 0) where
  -- In each state that a pool comes to a number is left where a seat's next step grants: the refusal where a call asks
  -- for an object is what keeps one.
  abbrev pub NumbersStayBelow : Type 0
  NumbersStayBelow =
      (policy : Policy) (limits : Limits) (raw : R) (words : List ℕ) (home : Option (Desk R))
      (entries : ℕ → Entry (Desk R)) → PoolRun out faults got passed policy limits raw words home entries
      → (seat : ℕ) → StayBelow (office_of out faults got passed (key_of policy limits)) (entries seat)

  -- In each state no two units' marks name one grant, and what they name was made.
  abbrev pub GrantsAreAtOnePlace : Type 0
  GrantsAreAtOnePlace =
      (policy : Policy) (limits : Limits) (raw : R) (words : List ℕ) (home : Option (Desk R))
      (entries : ℕ → Entry (Desk R)) → IsAllowed policy limits
      → PoolRun out faults got passed policy limits raw words home entries → OnlySeatsStep limits.seats entries
      → AreApart limits.seats (memory (key_of policy limits) words marks) (lasts_of entries)

  -- Between each state and each that it leads to no grant returns.
  abbrev pub GrantsNeverReturn : Type 0
  GrantsNeverReturn =
      (policy : Policy) (limits : Limits) (raw : R) (words : List ℕ) (home : Option (Desk R))
      (entries : ℕ → Entry (Desk R)) (words' : List ℕ) (home' : Option (Desk R)) (entries' : ℕ → Entry (Desk R))
      → IsAllowed policy limits → PoolRun out faults got passed policy limits raw words home entries
      → RunsOn (office_of out faults got passed (key_of policy limits)) (key_of policy limits) words home entries
      words' home' entries' → OnlySeatsStep limits.seats entries'
      → NeverReturn (memory (key_of policy limits) words marks) (lasts_of entries)
      (memory (key_of policy limits) words' marks) (lasts_of entries')

  -- In each state all grants of the run are different, each seat's numbered in order, and each that was ended was
  -- made, was ended once, and is at no mark.
  abbrev pub GrantsOfARunAreDistinct : Type 0
  GrantsOfARunAreDistinct =
      (policy : Policy) (limits : Limits) (raw : R) (words : List ℕ) (home : Option (Desk R))
      (entries : ℕ → Entry (Desk R)) → IsAllowed policy limits
      → PoolRun out faults got passed policy limits raw words home entries → OnlySeatsStep limits.seats entries
      → AreDistinct limits.seats (memory (key_of policy limits) words marks) entries
