-- The laws of runs.
use Rattle.std.specs.Prelude.{◌≡◌, ℕ, true, List, [], length, replicate, Bool, Option, Some, Result}
use Rattle.pool_types.specs.declared.policy.Limits.{Limits}
use Rattle.pool_types.specs.declared.policy.Policy.{Policy}
use Rattle.pool_types.specs.declared.policy.RegionRec.{RegionRec}
use Rattle.pool_types.specs.declared.values.Region.{Region}
use Rattle.pool_types.specs.declared.values.Request.{Request}
use Rattle.regions.specs.declared.errors.ObtainError.{ObtainError}
use Rattle.regions.specs.Offices.{Desk, desk_of}
use Rattle.pool_words.specs.declared.words.Word.{Word}
use Rattle.pool_words.specs.declared.actions.Action.TheVariants.{TakeOffice, GiveOffice, Nothing}
use Rattle.pool_words.specs.declared.actions.OfficeJob.{OfficeJob}
use Rattle.pool_words.specs.declared.actions.Seen.{Seen}
use Rattle.pool_words.specs.Actions.{value}
use Rattle.pool_words.specs.Words.{words_of}
use Rattle.step_depot.specs.Steps.{key_of}
use Rattle.step_local.specs.declared.frames.Local.{Local}
use Rattle.step_local.specs.declared.frames.Reset.{Reset}
use Rattle.step_local.specs.Course.{course}
use Rattle.step_local.specs.Getting.{begun, reset_begun}
use Rattle.step_local.specs.Learn.{learn}
use Rattle.step_runs.specs.declared.entry.Entry.{Entry}
use Rattle.step_runs.specs.Places.{has_word, Carry, away, in_slot, in_hand, carry_of, HasDesk}
use Rattle.step_runs.specs.Places.{Move, stays, takes, gives, move_of, gives_of, passed_of}
use Rattle.step_runs.specs.Entries.{seen_by, first_entry}
use Rattle.step_runs.specs.Runs.{Silent, seen_answer}
use Rattle.step_runs.specs.Callbacks.{office_of, PoolRun}

-- what a step on a word makes of where the office is
abbrev pub Onward : Carry → Move → Carry → Type 0
Onward before stays after = after ≡ before
Onward before takes after = (before ≡ away) × (after ≡ in_slot)
Onward before gives after = (before ≡ in_slot) × (after ≡ away)

-- a step on a word goes on from where the office is; only the step that passes a region leads to where one was passed
pub record GoesOnward (l : Local) (found : ℕ) : Type 0 where
  pub carry : Onward (carry_of l.at) (move_of l.at found) (carry_of (learn l (seen_by (course l) found)).0.at)
  pub passed : passed_of (learn l (seen_by (course l) found)).0 ≡ gives_of l

abbrev pub StepsGoOnward : Type 0
StepsGoOnward = (l : Local) (found : ℕ) → has_word (course l) ≡ true → GoesOnward l found

-- a turn from a place of the office to another
pub record Leads (l : Local) (before : Carry) (now : Local) (after : Carry) : Type 0 where
  pub from : carry_of l.at ≡ before
  pub to : carry_of now.at ≡ after

-- what begins and turns without a step on a word make of where the office is
pub record TurnsInPlace (l : Local) : Type 0 where
  pub begins : (request : Request) → carry_of (begun l request).0.at ≡ carry_of l.at
  pub resets : (reset : Reset) → carry_of (reset_begun l reset).0.at ≡ carry_of l.at
  pub answers : course l ≡ Nothing → Leads l away (learn l Seen.Done).0 away
  pub obtains : (granules : ℕ) (answer : Result RegionRec ObtainError)
      → course l ≡ TakeOffice (OfficeJob.Obtain granules) → Leads l in_slot (learn l (seen_answer answer)).0 in_hand
  pub takes_out : (first : ℕ) → course l ≡ TakeOffice (OfficeJob.Give first)
      → Leads l in_slot (learn l Seen.Given).0 in_hand
  pub puts_back : course l ≡ GiveOffice → Leads l in_hand (learn l Seen.Done).0 in_slot

abbrev pub OtherTurnsLead : Type 0
OtherTurnsLead = (l : Local) → TurnsInPlace l

-- the office is that of a pool with this policy and these limits
pub record IsOf {R : Type 0} (policy : Policy) (limits : Limits) (desk : Desk R) : Type 0 where
  pub policy_is : desk.policy ≡ policy
  pub limits_are : desk.limits ≡ limits

module _ {R : Type 0} (out : R → List Region) (faults : R → ℕ) (got : R → ℕ → Option Region → R → Type 0)
    (passed : R → Region → Bool → R → Type 0) where
  -- what a seat has of the office is what its position says, also between its steps
  abbrev pub SilenceKeepsDesk : Type 0
  SilenceKeepsDesk =
      (policy : Policy) (limits : Limits) (l : Local) (desk : Option (Desk R)) (now : Local) (after : Option (Desk R))
      → Silent (office_of out faults got passed (key_of policy limits)) l desk now after
      → HasDesk (carry_of l.at) desk → HasDesk (carry_of now.at) after

  -- in each state of a run all words are there, each entry is of its seat, and each seat has what its position says
  pub record IsOrdered (policy : Policy) (limits : Limits) (words : List ℕ) (home : Option (Desk R))
      (entries : ℕ → Entry (Desk R)) : Type 0 where
    pub sized : length words ≡ words_of (key_of policy limits)
    pub seats : (seat : ℕ) → (entries seat).seat ≡ seat
    pub desks : (seat : ℕ) → HasDesk (carry_of (entries seat).local.at) (entries seat).desk
    pub free : value (key_of policy limits) words Word.OfficeLock ≡ 0 → (desk : Desk R) × (home ≡ Some desk)

  abbrev pub RunsAreOrdered : Type 0
  RunsAreOrdered =
      (policy : Policy) (limits : Limits) (raw : R) (words : List ℕ) (home : Option (Desk R))
      (entries : ℕ → Entry (Desk R)) → PoolRun out faults got passed policy limits raw words home entries
      → IsOrdered policy limits words home entries

  -- where no seat has made a step, the pool is as it was made
  pub record IsNew (policy : Policy) (limits : Limits) (raw : R) (words : List ℕ) (home : Option (Desk R))
      (entries : ℕ → Entry (Desk R)) : Type 0 where
    pub words_are : words ≡ replicate (words_of (key_of policy limits)) 0
    pub home_is : home ≡ Some (desk_of policy limits [] 0 Bool.false raw)
    pub entries_are : (seat : ℕ) → entries seat ≡ first_entry (key_of policy limits) seat

  abbrev pub StepsLeaveRows : Type 0
  StepsLeaveRows =
      (policy : Policy) (limits : Limits) (raw : R) (words : List ℕ) (home : Option (Desk R))
      (entries : ℕ → Entry (Desk R)) → PoolRun out faults got passed policy limits raw words home entries
      → ((seat : ℕ) → (entries seat).rows ≡ []) → IsNew policy limits raw words home entries

  -- wherever the office is, it is the pool's
  pub record HasOffices (policy : Policy) (limits : Limits) (home : Option (Desk R)) (entries : ℕ → Entry (Desk R))
      : Type 0 where
    pub home_has : (desk : Desk R) → home ≡ Some desk → IsOf policy limits desk
    pub seats_have : (seat : ℕ) (desk : Desk R) → (entries seat).desk ≡ Some desk → IsOf policy limits desk

  abbrev pub OfficesAreThePools : Type 0
  OfficesAreThePools =
      (policy : Policy) (limits : Limits) (raw : R) (words : List ℕ) (home : Option (Desk R))
      (entries : ℕ → Entry (Desk R)) → PoolRun out faults got passed policy limits raw words home entries
      → HasOffices policy limits home entries
