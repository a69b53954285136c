-- What a step makes of the words and of the office is one, and so is what it finds.
use Rattle.std.proofs.Common.{◌≡◌, ℕ, Bool, true, false, ap, ◌∙◌, sym, refl, subst, Ok, Err}
use Rattle.std.specs.Prelude.{Option, Result}
use Rattle.pool_types.specs.declared.policy.RegionRec.{RegionRec}
use Rattle.pool_types.specs.Script.{Script, Gets, Puts}
use Rattle.pool_words.specs.Actions.{after_action}
use Rattle.pool_words.specs.declared.actions.Action.{Action}
use Rattle.pool_words.specs.declared.actions.OfficeJob.{OfficeJob}
use Rattle.pool_words.specs.declared.actions.Seen.{Seen}
use Rattle.regions.specs.declared.errors.ObtainError.{ObtainError}
use Rattle.regions.specs.Obtaining.{Obtains}
use Rattle.regions.specs.Offices.{Desk, IsSound}
use Rattle.step_depot.specs.Steps.{Stock, Steps, TakesBy, Answers, Performs, Found, asked_granules}
use Rattle.line_runs.specs.Turning.{out_of, faults_of}
use Rattle.run_laws.proofs.Offices.{obtains_once, puts_if_once}

-- the office of the pool is sound
abbrev pub IsSoundStock : Stock Script → Type 0
IsSoundStock stock = IsSound out_of stock.desk

-- a step found the same and left the same
abbrev pub StepIsOne : Seen → Seen → Stock Script → Stock Script → Type 0
StepIsOne seen seen' new new' = (seen ≡ seen') × (new ≡ new') × IsSoundStock new

abbrev seen_of : Result RegionRec ObtainError → Seen
seen_of (Ok came) = Seen.Obtained came
seen_of (Err error) = Seen.Refused error

module _ (old : Stock Script) (sound : IsSoundStock old) where
  stays : (new : Stock Script) → new ≡ old → IsSoundStock new
  stays new kept = subst (λ (s : Stock Script). IsSoundStock s) (sym kept) sound

  obtained : (granules : ℕ) (seen : Seen) (new : Stock Script) → Answers out_of faults_of Gets old granules seen new →
      (result : Result RegionRec ObtainError) × (seen ≡ seen_of result) ×
      Obtains out_of faults_of Gets old.desk (asked_granules old.key granules) result new.desk
  obtained granules (Seen.Obtained came) new h = (Ok came, refl, h)
  obtained granules (Seen.Refused error) new h = (Err error, refl, h)
  obtained granules (Seen.Word value) new h = absurd h
  obtained granules Seen.Done new h = absurd h
  obtained granules Seen.OfficeOut new h = absurd h
  obtained granules Seen.Given new h = absurd h

  answers_once : (granules : ℕ) (seen seen' : Seen) (new new' : Stock Script) →
      Answers out_of faults_of Gets old granules seen new → Answers out_of faults_of Gets old granules seen' new' →
      (seen ≡ seen') × (new.desk ≡ new'.desk) × IsSoundStock new
  answers_once granules seen seen' new new' h h' =
      let one = obtained granules seen new h in
      let other = obtained granules seen' new' h' in
      let same = obtains_once old.desk sound (asked_granules old.key granules) one.0 other.0 new.desk new'.desk one.2 other.2 in
      (one.1 ∙ ap seen_of same.0 ∙ sym other.1, same.1, same.2)

  takes_once : (out : Bool) (job : OfficeJob) (seen seen' : Seen) (new new' : Stock Script) →
      TakesBy out_of faults_of Gets out old job seen new → TakesBy out_of faults_of Gets out old job seen' new' →
      StepIsOne seen seen' new new'
  takes_once true job seen seen' new new' h h' = (h.0 ∙ sym h'.0, h.1 ∙ sym h'.1, stays new h.1)
  takes_once false (OfficeJob.Give first) seen seen' new new' h h' = (
    h.0 ∙ sym h'.0,
    h.1 ∙ sym h'.1,
    subst (λ (s : Stock Script). IsSoundStock s) (sym h.1) sound,
  )
  takes_once false (OfficeJob.Obtain granules) seen seen' new new' h h' =
      let same = answers_once granules seen seen' new new' h.0 h'.0 in (
        same.0,
        h.1 ∙ ap (λ (desk : Desk Script). record old { desk = desk; out = true }) same.1 ∙ sym h'.1,
        same.2,
      )

  performs_once : (action : Action) (gives : Option ℕ) (new new' : Stock Script) →
      Performs out_of faults_of Gets Puts old action gives new → Performs out_of faults_of Gets Puts old action gives new' →
      (new ≡ new') × IsSoundStock new
  performs_once action gives new new' h h' =
      let same = puts_if_once old.desk sound gives new.desk new'.desk h.desk h'.desk in (
        h.rest ∙
            ap (λ (desk : Desk Script). record old { words = after_action old.key old.words action; desk = desk }) same.0 ∙
            sym h'.rest,
        same.1,
      )

  found_once : (action : Action) (gives : Option ℕ) (seen seen' : Seen) (new new' : Stock Script) →
      Found out_of faults_of Gets Puts old action gives seen new →
      Found out_of faults_of Gets Puts old action gives seen' new' → StepIsOne seen seen' new new'
  found_once action gives seen seen' new new' h h' =
      let same = performs_once action gives new new' h.1 h'.1 in (h.0 ∙ sym h'.0, same.0, same.1)

  -- a step
  pub steps_once : (action : Action) (gives : Option ℕ) (seen seen' : Seen) (new new' : Stock Script) →
      Steps out_of faults_of Gets Puts old action gives seen new →
      Steps out_of faults_of Gets Puts old action gives seen' new' → StepIsOne seen seen' new new'
  steps_once (Action.TakeOffice job) gives seen seen' new new' h h' = takes_once old.out job seen seen' new new' h h'
  steps_once Action.GiveOffice gives seen seen' new new' h h' = (
    h.0 ∙ sym h'.0,
    h.1 ∙ sym h'.1,
    subst (λ (s : Stock Script). IsSoundStock s) (sym h.1) sound,
  )
  steps_once Action.Nothing gives seen seen' new new' h h' = (h.0 ∙ sym h'.0, h.1 ∙ sym h'.1, stays new h.1)
  steps_once (Action.Store word value) gives seen seen' new new' h h' =
      let same = performs_once (Action.Store word value) gives new new' h.1 h'.1 in (h.0 ∙ sym h'.0, same.0, same.1)
  steps_once (Action.Load word) gives seen seen' new new' h h' =
      found_once (Action.Load word) gives seen seen' new new' h h'
  steps_once (Action.Swap word value) gives seen seen' new new' h h' =
      found_once (Action.Swap word value) gives seen seen' new new' h h'
  steps_once (Action.Exchange word from to) gives seen seen' new new' h h' =
      found_once (Action.Exchange word from to) gives seen seen' new new' h h'
  steps_once (Action.Add word value) gives seen seen' new new' h h' =
      found_once (Action.Add word value) gives seen seen' new new' h h'
