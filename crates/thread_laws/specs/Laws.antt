-- The laws of pools that threads share. The rule of a pool's table holds at any moment, whatever threads do.
use Rattle.std.specs.Prelude.{◌≡◌, ℕ, ◌-◌, ◌<◌, Bool, List, [], Contains, Option, Some}
use mathlib.Core.Option.{some}
use lib.ListN.{get_elem?}
use Rattle.pool_types.specs.declared.values.Leak.{Leak}
use Rattle.pool_types.specs.declared.values.Region.{Region}
use Rattle.pool_types.specs.Policies.{IsAllowed}
use Rattle.regions.specs.Offices.{Desk}
use Rattle.step_runs.specs.declared.entry.Entry.{Entry}
use Rattle.step_runs.specs.Callbacks.{office_of, PoolRun}
use Rattle.step_laws.specs.Laws.{OnlySeatsStep}
use Rattle.step_grants.specs.Grants.{grant_in}
use Rattle.step_ranges.specs.Laws.{LinksLead}
use Rattle.path_laws.specs.Laws.{IsPaid}
use Rattle.leak_laws.specs.Laws.{AreOnce}
use Rattle.word_totals.specs.Leaking.{leaks_of}
use Rattle.atomic_driver.specs.declared.rule.Plan.{Plan}
use Rattle.atomic_driver.specs.declared.rule.View.{View}
use Rattle.atomic_driver.specs.Rule.{key_by, PoolRule}
use Rattle.quiet_pool.specs.Quiet.{Quiet, IsState, still_of}
use Rattle.thread_laws.specs.Tables.{HasEntry, KeepsGrants, KeepsLocks, KeepsRegions, KeepsRanges}

-- of a quiet pool: each leak was granted to the heap that its grant names, and no heap has ended it; each is there once
pub record QuietFits {R : Type 0} (q : Quiet R) (leaks : List Leak) : Type 0 where
  pub seat : (leak : Leak) → Contains leaks leak → leak.grant.seat < (key_by q.plan).seats
  pub granted : (leak : Leak) → Contains leaks leak → (e : Entry (Desk R))
      → get_elem? q.entries leak.grant.seat ≡ some e
      → grant_in e.grants (leak.grant.number - 1) ≡ Some leak.grant
  pub kept : (leak : Leak) → Contains leaks leak → (place i : ℕ) (e : Entry (Desk R))
      → get_elem? q.entries place ≡ some e → grant_in e.frees i ≡ Some leak.grant → ⊥
  pub once : AreOnce leaks

module _ {R : Type 0} (out : R → List Region) (faults : R → ℕ) (got : R → ℕ → Option Region → R → Type 0)
    (passed : R → Region → Bool → R → Type 0) where
  -- the words are those of a state of a run, of a pool that is made so, and each heap's entry is its seat's
  pub record IsMoment (plan : Plan) (words : List ℕ) (views : List (View (Desk R))) : Type 0 where
    pub raw : R
    pub none_out : out raw ≡ []
    pub home : Option (Desk R)
    pub all : ℕ → Entry (Desk R)
    pub run : PoolRun out faults got passed plan.policy plan.limits raw words home all
    pub only : OnlySeatsStep plan.limits.seats all
    pub each : (e : Entry (Desk R)) → HasEntry views e → all e.seat ≡ e
    pub seats : (e : Entry (Desk R)) → HasEntry views e → e.seat < plan.limits.seats

  abbrev pub TablesAreStates : Type 0
  TablesAreStates =
      (plan : Plan) (words : List ℕ) (slot : Option (Desk R)) (views : List (View (Desk R)))
      → PoolRule out faults got passed plan words slot views → IsMoment plan words views

  abbrev pub TablesKeepGrants : Type 0
  TablesKeepGrants =
      (plan : Plan) (words : List ℕ) (slot : Option (Desk R)) (views : List (View (Desk R)))
      → IsAllowed plan.policy plan.limits → PoolRule out faults got passed plan words slot views
      → KeepsGrants (key_by plan) words views

  abbrev pub TablesKeepLocks : Type 0
  TablesKeepLocks =
      (plan : Plan) (words : List ℕ) (slot : Option (Desk R)) (views : List (View (Desk R)))
      → PoolRule out faults got passed plan words slot views
      → KeepsLocks (office_of out faults got passed (key_by plan)) (key_by plan) words views

  abbrev pub TablesKeepRegions : Type 0
  TablesKeepRegions =
      (plan : Plan) (words : List ℕ) (slot : Option (Desk R)) (views : List (View (Desk R)))
      → IsAllowed plan.policy plan.limits → PoolRule out faults got passed plan words slot views
      → KeepsRegions (key_by plan) words views

  -- where each link that a step loaded of a block in the cache led to a block as long as its bin's
  abbrev pub TablesKeepRanges : Type 0
  TablesKeepRanges =
      (plan : Plan) (words : List ℕ) (slot : Option (Desk R)) (views : List (View (Desk R)))
      → IsAllowed plan.policy plan.limits → (rule : PoolRule out faults got passed plan words slot views)
      → LinksLead rule.run
      → KeepsRanges (office_of out faults got passed (key_by plan)) (key_by plan) words views

  abbrev pub TablesArePaid : Type 0
  TablesArePaid =
      (plan : Plan) (words : List ℕ) (slot : Option (Desk R)) (views : List (View (Desk R)))
      → PoolRule out faults got passed plan words slot views → (e : Entry (Desk R)) → HasEntry views e
      → IsPaid (key_by plan) e

  -- A quiet pool is a state of a run, and its leaks are those that `word_totals` counts.
  abbrev pub QuietPoolsListGrants : Type 0
  QuietPoolsListGrants =
      (q : Quiet R) → IsAllowed q.plan.policy q.plan.limits → IsState out faults got passed q
      → QuietFits q (leaks_of (still_of q))
