-- Calls that move nothing are runs of the partition machine's events.
use Rattle.std.proofs.Common.{◌≡◌, Bool, true, false, List, [], ◌∷◌, Some, None, refl, sym, inl, inr, subst, ◌++◌, lit≤}
use Rattle.std.specs.Prelude.{if◌then◌else◌}
use Rattle.std.specs.declared.option.Option.{Option}
use Rattle.pool_types.specs.declared.values.Place.{Place}
use Rattle.pool_types.specs.declared.values.Grant.{Grant}
use Rattle.pool_types.specs.declared.values.Request.{Request}
use Rattle.pool_types.specs.declared.values.Request.TheVariants.{Free, Msize, Identify}
use Rattle.pool_types.specs.declared.values.Answer.{Answer}
use Rattle.pool_types.specs.declared.values.Answer.TheVariants.{False, Size, Pool, NoPool, NotHeld}
use Rattle.pool_types.specs.declared.values.Found.TheVariants.{NoPlace, NoGrant}
use Rattle.part_model.specs.declared.holders.Holder.TheVariants.{Hand}
use Rattle.size_classes.specs.Classes.{class_size}
use Rattle.machine.specs.States.{State, fixed_terms}
use Rattle.machine.specs.Journal.{Turn, Nothing_seen}
use Rattle.machine.specs.Lawful.{nothing_moves}
use Rattle.machine.specs.Answers.{Call, Moment, AtStep, BeginsAt, IsObject, IsUnit, IsFound, IsAnswerTo}
use Rattle.machine.proofs.CallerLemmas.{nothing_moved, none_whole, none_apart}
use Rattle.plain_lists.specs.Lists.{Lists}
use Rattle.plain_lists.specs.Whole.{Spot, grant_of, spot_at, is_unit, missing, msize_of, identify_of}
use Rattle.plain_lists.proofs.Spots.{spot_at-Some}
use Rattle.plain_lists.proofs.ObjectPlaces.{spot_place}
use Rattle.plain_runs.specs.Steps.{still_step, look_steps, steps_of}
use Rattle.plain_runs.proofs.Courses.{call_with, moment, quiet_leads, call_runs, calling}
use Rattle.plain_runs.proofs.LaidOut.{Holds}
use Rattle.plain_runs.proofs.Legal.{never, none_in_hand, calm_pool}
use Rattle.plain_runs.proofs.MallocRuns.{WholeRuns}
use Rattle.plain_runs.proofs.Objects.{object_is, begins_found, unit_is, no_unit}
use Rattle.machine.specs.Turns.{Nothing_due, due_after, IsTurnOf}
use Rattle.machine.specs.Cleaning.{IsCleaned}

-- the moments of a call that makes one step, and of one that makes two
abbrev pub one_moment : State → Answer → List Moment
one_moment state answer = moment state (still_step (Some answer)) ∷ []

abbrev pub two_moments : State → Answer → List Moment
two_moments state answer = moment state (still_step None) ∷ moment state (still_step (Some answer)) ∷ []

-- what is asked of the last step of a call that moved nothing
pub still_fits : (state : State) (lists : Lists) (request : Request) (moments : List Moment) (answer : Answer) → Holds state lists →
    IsAnswerTo fixed_terms (call_with state request (moments ++ moment state (still_step (Some answer)) ∷ [])) state request answer →
    due_after Nothing_due (moments ++ moment state (still_step (Some answer)) ∷ []) ≡ Nothing_due → IsCleaned (moments ++ moment state (still_step (Some answer)) ∷ []) →
    IsTurnOf fixed_terms (calling state (call_with state request moments)) (still_step (Some answer)) (call_with state request moments)
still_fits state lists request moments answer holds legal due cleaned = record {
  sight = tt;
  moves = nothing_moved fixed_terms (call_with state request moments);
  large = tt;
  slabs = tt;
  comes = tt;
  leaves = tt;
  answered = record {
    legal = record { answers = legal; no_hand = never state lists holds (Some (Hand 0)) refl; no_slab = none_in_hand state lists holds };
    due = due;
    cleaned = cleaned;
    calm = λ once. calm_pool state lists [] holds;
  };
}

-- one step that moves nothing, and answers
pub run_still : (state : State) (lists : Lists) (request : Request) (answer : Answer) → Holds state lists → IsAnswerTo fixed_terms (call_with state request (one_moment state answer)) state request answer →
    WholeRuns state request (still_step (Some answer) ∷ []) lists
run_still state lists request answer holds legal = record {
  next = state;
  runs = call_runs state request [] state [] [] Nothing_seen answer refl (quiet_leads request state state [] [] tt) (record {
    whole = none_whole;
    apart = none_apart;
    there = tt;
    lawful = nothing_moves;
    fits = still_fits state lists request [] answer holds legal refl (record { drawn = lit≤ tt; asked = (tt, tt) });
  });
  holds = holds;
}

-- two steps that move nothing, of which the second answers
pub run_looks : (state : State) (lists : Lists) (request : Request) (answer : Answer) → Holds state lists → IsAnswerTo fixed_terms (call_with state request (two_moments state answer)) state request answer →
    WholeRuns state request (look_steps answer) lists
run_looks state lists request answer holds legal = record {
  next = state;
  runs = call_runs state request (still_step None ∷ []) state (moment state (still_step None) ∷ []) [] Nothing_seen answer refl
      (quiet_leads request state state [] (still_step None ∷ []) (
        record { parts = []; book = []; is = refl; made = record { whole = none_whole; apart = none_apart; there = tt; lawful = nothing_moves }; quiet = tt; slabs = λ s call. tt },
        tt,
      ))
      (record {
        whole = none_whole;
        apart = none_apart;
        there = tt;
        lawful = nothing_moves;
        fits = still_fits state lists request (moment state (still_step None) ∷ []) answer holds legal refl (record { drawn = lit≤ tt; asked = (tt, (tt, tt)) });
      });
  holds = holds;
}

-- where nothing is found, it is as it is said
pub missing_found : (state : State) (lists : Lists) (call : Call) (place : Place) (first : Turn) (moments : List Moment) → Holds state lists → spot_at lists place ≡ None → call.moments ≡ moment state first ∷ moments →
    IsFound fixed_terms.limits call place (missing lists place)
missing_found state lists call place first moments holds none is = go (is_unit lists place) refl
  where
    at_first : (fact : State → Type 0) → fact state → AtStep fact call.moments
    at_first fact holds = subst (λ ms. AtStep fact ms) (sym is) (inl holds)

    go : (b : Bool) → is_unit lists place ≡ b → IsFound fixed_terms.limits call place (if b then NoGrant else NoPlace)
    go true unit = at_first (λ s. IsUnit fixed_terms.limits s place × ((grant : Grant) → BeginsAt s place grant → ⊥)) (unit_is state lists holds place unit, λ grant begins. begins_found state lists holds place grant begins none)
    go false other = inr (inr (at_first (λ s. IsUnit fixed_terms.limits s place → ⊥) (no_unit state lists holds place other)))

-- the object at a spot
pub spot_object : (state : State) (lists : Lists) (place : Place) (spot : Spot) → Holds state lists → spot_at lists place ≡ Some spot → IsObject state place (class_size spot.slab.class) (grant_of spot.number)
spot_object state lists place spot holds is =
    let at = spot_at-Some lists place spot is in
    subst (λ p. IsObject state p (class_size spot.slab.class) (grant_of spot.number)) (sym (spot_place lists place spot at))
    (object_is state lists holds spot.slab spot.object spot.number at.listed at.held)

-- a question for the usable bytes
pub msize_runs : (state : State) (lists : Lists) (place : Option Place) → Holds state lists → WholeRuns state (Msize place) (steps_of lists (Msize place)) lists
msize_runs state lists None holds = run_looks state lists (Msize None) (Size 0) holds (refl, record { none = refl; book = refl })
msize_runs state lists (Some place) holds = go (spot_at lists place) refl
  where
    go : (spot : Option Spot) → spot_at lists place ≡ spot → WholeRuns state (Msize (Some place)) (look_steps (msize_of lists place spot)) lists
    go (Some spot) is =
        let object = spot_object state lists place spot holds is in
        run_looks state lists (Msize (Some place)) (Size (class_size spot.slab.class)) holds ((grant_of spot.number, inl (object, inl object)), record { none = refl; book = refl })
    go None is =
        let answer : Answer = NotHeld (missing lists place) in
        run_looks state lists (Msize (Some place)) (NotHeld (missing lists place)) holds
        (missing_found state lists (call_with state (Msize (Some place)) (two_moments state (NotHeld (missing lists place)))) place (still_step None) (moment state (still_step (Some (NotHeld (missing lists place)))) ∷ []) holds is refl, record { none = refl; book = refl })

-- a question for the pool
pub identify_runs : (state : State) (lists : Lists) (place : Option Place) → Holds state lists → WholeRuns state (Identify place) (steps_of lists (Identify place)) lists
identify_runs state lists None holds = run_looks state lists (Identify None) NoPool holds (record { none = refl; book = refl })
identify_runs state lists (Some place) holds = go (spot_at lists place) refl
  where
    go : (spot : Option Spot) → spot_at lists place ≡ spot → WholeRuns state (Identify (Some place)) (look_steps (identify_of spot)) lists
    go (Some spot) is =
        let object = spot_object state lists place spot holds is in
        run_looks state lists (Identify (Some place)) (Pool 0) holds (refl, (grant_of spot.number, inl (object.begins, inl object.begins)), record { none = refl; book = refl })
    go None is =
        run_looks state lists (Identify (Some place)) NoPool holds
        ((missing lists place, missing_found state lists (call_with state (Identify (Some place)) (two_moments state NoPool)) place (still_step None) (moment state (still_step (Some NoPool)) ∷ []) holds is refl), record { none = refl; book = refl })

-- a free of no place, and one of a place where nothing is held
pub free_none_runs : (state : State) (lists : Lists) → Holds state lists → WholeRuns state (Free None) (steps_of lists (Free None)) lists
free_none_runs state lists holds = run_still state lists (Free None) False holds (record { none = refl; book = refl })

pub free_missing_runs : (state : State) (lists : Lists) (place : Place) → Holds state lists → spot_at lists place ≡ None → WholeRuns state (Free (Some place)) (still_step (Some (NotHeld (missing lists place))) ∷ []) lists
free_missing_runs state lists place holds is =
    run_still state lists (Free (Some place)) (NotHeld (missing lists place)) holds
    (missing_found state lists (call_with state (Free (Some place)) (one_moment state (NotHeld (missing lists place)))) place (still_step (Some (NotHeld (missing lists place)))) [] holds is refl, record { none = refl; book = refl })
