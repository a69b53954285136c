-- What a step makes of the words and of the office, and what it finds.
use Rattle.std.specs.Prelude.{◌≡◌, ℕ, ◌-◌, ◌≤◌, min, max, Bool, true, false, List, [], Option, Some, None, replicate, Ok, Err}
use Rattle.pool_types.specs.declared.policy.Limits.{Limits}
use Rattle.pool_types.specs.declared.policy.Policy.{Policy}
use Rattle.pool_types.specs.declared.policy.CreateError.{CreateError}
use Rattle.pool_types.specs.Policies.{IsAllowed, IsRefusal}
use Rattle.pool_types.specs.declared.values.Region.{Region}
use Rattle.pool_words.specs.declared.words.Key.{Key}
use Rattle.pool_words.specs.declared.actions.Action.{Action}
use Rattle.pool_words.specs.declared.actions.OfficeJob.{OfficeJob}
use Rattle.pool_words.specs.declared.actions.Seen.{Seen}
use Rattle.pool_words.specs.Actions.{finds, after_action}
use Rattle.pool_words.specs.Words.{words_of}
use Rattle.regions.specs.Offices.{Desk, desk_of}
use Rattle.regions.specs.Obtaining.{Obtains, Gives}
pub use Rattle.regions.specs.Obtaining.{starts_at}

-- what the pool was made with, its words, the office, and whether some seat has taken it out of its slot
pub record Stock (R : Type 0) : Type 0 where
  pub key : Key
  pub words : List ℕ
  pub desk : Desk R
  pub out : Bool

-- the office is the pool's
pub record IsStocked {R : Type 0} (key : Key) (desk : Desk R) : Type 0 where
  pub span : desk.limits.span ≡ key.span
  pub some : 2 ≤ key.span

abbrev pub key_of : Policy → Limits → Key
key_of policy limits = record {
  pool = limits.pool;
  seats = limits.seats;
  span = limits.span;
  region = limits.region;
  granularity = policy.granularity;
  gets = policy.gets;
  frees = policy.frees;
  fixed = policy.fixed;
  keep = policy.keep;
}

abbrev pub first_stock : {R : Type 0} → Policy → Limits → R → Stock R
first_stock policy limits raw = record {
  key = key_of policy limits;
  words = replicate (words_of (key_of policy limits)) 0;
  desk = desk_of policy limits [] 0 false raw;
  out = false;
}

-- why none is made: the first reason of the policy and the limits, or want of memory where these allow it
abbrev pub IsUnmade : Policy → Limits → CreateError → Type 0
IsUnmade policy limits CreateError.NoMemory = IsAllowed policy limits
IsUnmade policy limits CreateError.InvalidPolicy = IsRefusal policy limits CreateError.InvalidPolicy
IsUnmade policy limits CreateError.UnsupportedPolicy = IsRefusal policy limits CreateError.UnsupportedPolicy
IsUnmade policy limits (CreateError.BadLimits which) = IsRefusal policy limits (CreateError.BadLimits which)

-- the office is asked for at least one granule, and for fewer than the span
abbrev pub asked_granules : Key → ℕ → ℕ
asked_granules k granules = min (max granules 1) (k.span - 1)

module _ {R : Type 0} (out : R → List Region) (faults : R → ℕ) (got : R → ℕ → Option Region → R → Type 0) where
  -- a region came, or was refused
  abbrev pub Answers : Stock R → ℕ → Seen → Stock R → Type 0
  Answers old granules (Seen.Obtained came) new =
      Obtains out faults got old.desk (asked_granules old.key granules) (Ok came) new.desk
  Answers old granules (Seen.Refused error) new =
      Obtains out faults got old.desk (asked_granules old.key granules) (Err error) new.desk
  Answers old granules (Seen.Word value) new = ⊥
  Answers old granules Seen.Done new = ⊥
  Answers old granules Seen.OfficeOut new = ⊥
  Answers old granules Seen.Given new = ⊥

  abbrev pub TakesBy : Bool → Stock R → OfficeJob → Seen → Stock R → Type 0
  TakesBy true old job seen new = (seen ≡ Seen.OfficeOut) × (new ≡ old)
  TakesBy false old (OfficeJob.Give first) seen new = (seen ≡ Seen.Given) × (new ≡ record old { out = true })
  TakesBy false old (OfficeJob.Obtain granules) seen new =
      Answers old granules seen new × (new ≡ record old { desk = new.desk; out = true })

  -- the office is taken, where it is in its slot
  abbrev pub Takes : Stock R → OfficeJob → Seen → Stock R → Type 0
  Takes old job seen new = TakesBy old.out old job seen new

module _ {R : Type 0} (out : R → List Region) (faults : R → ℕ) (passed : R → Region → Bool → R → Type 0) where
  abbrev pub PutsBy : Bool → Desk R → ℕ → Desk R → Type 0
  PutsBy true old first new = (answer : Bool) × Gives out faults passed old first answer new
  PutsBy false old first new = new ≡ old

  -- the region that begins at the index is passed to the callback, if one does
  abbrev pub Puts : Desk R → ℕ → Desk R → Type 0
  Puts old first new = PutsBy (starts_at old first) old first new

  abbrev pub PutsIf : Desk R → Option ℕ → Desk R → Type 0
  PutsIf old (Some first) new = Puts old first new
  PutsIf old None new = new ≡ old

module _ {R : Type 0} (out : R → List Region) (faults : R → ℕ) (got : R → ℕ → Option Region → R → Type 0)
    (passed : R → Region → Bool → R → Type 0) where
  -- an action on a word
  pub record Performs (old : Stock R) (action : Action) (gives : Option ℕ) (new : Stock R) : Type 0 where
    pub desk : PutsIf out faults passed old.desk gives new.desk
    pub rest : new ≡ record old { words = after_action old.key old.words action; desk = new.desk }

  abbrev pub Found : Stock R → Action → Option ℕ → Seen → Stock R → Type 0
  Found old action gives seen new =
      (seen ≡ Seen.Word (finds old.key old.words action)) × Performs old action gives new

  -- a step
  abbrev pub Steps : Stock R → Action → Option ℕ → Seen → Stock R → Type 0
  Steps old (Action.TakeOffice job) gives seen new = Takes out faults got old job seen new
  Steps old Action.GiveOffice gives seen new = (seen ≡ Seen.Done) × (new ≡ record old { out = false })
  Steps old Action.Nothing gives seen new = (seen ≡ Seen.Done) × (new ≡ old)
  Steps old (Action.Store word value) gives seen new =
      (seen ≡ Seen.Done) × Performs old (Action.Store word value) gives new
  Steps old (Action.Load word) gives seen new = Found old (Action.Load word) gives seen new
  Steps old (Action.Swap word value) gives seen new = Found old (Action.Swap word value) gives seen new
  Steps old (Action.Exchange word from to) gives seen new = Found old (Action.Exchange word from to) gives seen new
  Steps old (Action.Add word value) gives seen new = Found old (Action.Add word value) gives seen new
