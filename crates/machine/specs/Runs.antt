-- Runs of the partition machine.
use Rattle.std.specs.Prelude.{◌≡◌, ◌≢◌, ◌⊎◌, ℕ, ◌<◌, true, false, List, [], ◌∷◌, map, is_some, Contains, Option}
use Rattle.std.specs.Prelude.{Some, None}
use Rattle.pool_types.specs.declared.policy.RegionRec.{RegionRec}
use Rattle.pool_types.specs.declared.values.Answer.{Answer}
use Rattle.pool_types.specs.declared.values.Place.{Place}
use Rattle.pool_types.specs.declared.values.Request.{Request}
use Rattle.pool_types.specs.Policies.{IsAllowed}
use Rattle.part_model.specs.declared.holders.Holder.TheVariants.{Waste, Bin}
use Rattle.part_model.specs.declared.moves.Range.{Range}
use Rattle.machine.specs.States.{Terms, State}
use Rattle.machine.specs.Ranges.{Each}
use Rattle.machine.specs.Regions.{granules_range}
use Rattle.machine.specs.Events.{Fate, Returned, Refused, Kept, Farewell, Event, Begins, Makes, Reset_begins}
use Rattle.machine.specs.Events.{Reset_ends, Ends, Serving, Resetting, Ended}
use Rattle.machine.specs.Events.{Progress, no_progress, call_of, after_event, after_events}
use Rattle.machine.specs.Turns.{MayStep}

-- the seat may begin a call: it has none open, and calls are served
pub record MayBegin (terms : Terms) (progress : Progress) (seat : ℕ) : Type 0 where
  pub seated : seat < terms.limits.seats
  pub free : call_of progress seat ≡ None
  pub serving : progress.phase ≡ Serving

-- What a reset leaves: each region with a granule is one block in bins, and no other block is there; what is not in
-- bins is waste; the book is empty.
pub record IsReset (terms : Terms) (state : State) : Type 0 where
  pub bytes : (byte : Place) → (state.held byte ≡ None)
      ⊎ ((state.held byte ≡ Some Waste) ⊎ (state.held byte ≡ Some Bin))
  pub book : state.book ≡ []
  pub whole : (region : RegionRec) → Contains state.regions region → 0 < region.granules →
      Contains state.blocks (granules_range terms.limits.pool region)
  pub no_more : (block : Range) → Contains state.blocks block → (region : RegionRec)
      × Contains state.regions region × (block ≡ granules_range terms.limits.pool region)

-- a region is kept exactly where the callback takes none back
abbrev pub IsFate : Terms → Fate → Type 0
IsFate terms Returned = terms.policy.frees ≡ true
IsFate terms Refused = terms.policy.frees ≡ true
IsFate terms Kept = terms.policy.frees ≡ false

-- the pool's end: each live region is told of once, in the order in which they came, so by number
pub record IsEnded (terms : Terms) (state : State) (farewells : List Farewell) : Type 0 where
  pub all : map (λ farewell. farewell.region) farewells ≡ state.regions
  pub fates : Each (λ farewell. IsFate terms farewell.fate) farewells

-- the event may happen
abbrev pub MayHappen : Terms → Progress → Event → Type 0
MayHappen terms progress (Begins seat request) = MayBegin terms progress seat
MayHappen terms progress (Makes turn) = MayStep terms progress turn
MayHappen terms progress Reset_begins = (progress.calls ≡ []) × (progress.phase ≡ Serving)
MayHappen terms progress Reset_ends = (progress.phase ≡ Resetting) × IsReset terms progress.state
MayHappen terms progress (Ends farewells) = (progress.calls ≡ []) × (progress.phase ≢ Ended)
    × IsEnded terms progress.state farewells

-- The events are a run of the partition machine, from here on: each may happen after those before it.
abbrev pub IsRunFrom : Terms → Progress → List Event → Type 0
IsRunFrom terms progress [] = Unit {0}
IsRunFrom terms progress (event ∷ events) = MayHappen terms progress event
    × IsRunFrom terms (after_event progress event) events

-- The events are a run of the partition machine (an execution of it), from no region on, of a pool that can be made.
abbrev pub IsRun : Terms → List Event → Type 0
IsRun terms events = IsAllowed terms.policy terms.limits × IsRunFrom terms no_progress events

-- the state at the end of a run
abbrev pub end_of : List Event → State
end_of events = (after_events no_progress events).state

-- the requests of a run, in order
abbrev pub requests_in : List Event → List Request
requests_in [] = []
requests_in (Begins seat request ∷ events) = request ∷ requests_in events
requests_in (Makes turn ∷ events) = requests_in events
requests_in (Reset_begins ∷ events) = requests_in events
requests_in (Reset_ends ∷ events) = requests_in events
requests_in (Ends farewells ∷ events) = requests_in events

-- the answer before the others, if there is one
abbrev pub with_answer : Option Answer → List Answer → List Answer
with_answer (Some answer) answers = answer ∷ answers
with_answer None answers = answers

-- the answers of a run, in order
abbrev pub answers_in : List Event → List Answer
answers_in [] = []
answers_in (Begins seat request ∷ events) = answers_in events
answers_in (Makes turn ∷ events) = with_answer turn.answer (answers_in events)
answers_in (Reset_begins ∷ events) = answers_in events
answers_in (Reset_ends ∷ events) = answers_in events
answers_in (Ends farewells ∷ events) = answers_in events

-- the events are those of calls alone: no reset, and not the pool's end
abbrev pub AreCalls : List Event → Type 0
AreCalls [] = Unit {0}
AreCalls (Begins seat request ∷ events) = AreCalls events
AreCalls (Makes turn ∷ events) = AreCalls events
AreCalls (Reset_begins ∷ events) = ⊥
AreCalls (Reset_ends ∷ events) = ⊥
AreCalls (Ends farewells ∷ events) = ⊥

-- the event is a call's last turn
abbrev pub IsAnswer : Event → Type 0
IsAnswer (Makes turn) = is_some turn.answer ≡ true
IsAnswer event = ⊥

-- nothing comes after the last answer
abbrev pub EndAnswered : List Event → Type 0
EndAnswered [] = Unit {0}
EndAnswered (event ∷ []) = IsAnswer event
EndAnswered (event ∷ next ∷ events) = EndAnswered (next ∷ events)
