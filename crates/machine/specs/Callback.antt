-- What a run says of its raw callback, and what it is for a callback to have answered so.
use Rattle.std.specs.Prelude.{◌≡◌, ℕ, Bool, true, false, List, [], ◌∷◌, ◌++◌, slice_get, Option, Some}
use Rattle.std.specs.List.{flat_map}
use Rattle.pool_types.specs.declared.values.Region.{Region}
use Rattle.pool_types.specs.Script.{Script, Gets, Puts}
use Rattle.machine.specs.Journal.{RawCall, Asked, Passed, Sight, Nothing_seen, Bins_seen, Raw_called, Tick_drawn}
use Rattle.machine.specs.Journal.{Items_seen}
use Rattle.machine.specs.Events.{Fate, Returned, Refused, Kept, Event, Begins, Makes, Reset_begins, Reset_ends, Ends}

-- the call of the callback that a turn found, if it found one
abbrev pub raw_call_of : Sight → List RawCall
raw_call_of Nothing_seen = []
raw_call_of (Bins_seen look) = []
raw_call_of (Raw_called call) = call ∷ []
raw_call_of (Tick_drawn tick) = []
raw_call_of (Items_seen granules items) = []

-- the call by which a region is passed at the pool's end, if it is
abbrev pub farewell_call : Region → Fate → List RawCall
farewell_call region Returned = Passed region true ∷ []
farewell_call region Refused = Passed region false ∷ []
farewell_call region Kept = []

-- the calls of the callback in a run, in order
abbrev pub raw_calls : List Event → List RawCall
raw_calls [] = []
raw_calls (Begins seat request ∷ events) = raw_calls events
raw_calls (Makes turn ∷ events) = raw_call_of turn.seen ++ raw_calls events
raw_calls (Reset_begins ∷ events) = raw_calls events
raw_calls (Reset_ends ∷ events) = raw_calls events
raw_calls (Ends farewells ∷ events) =
    flat_map (λ farewell. farewell_call farewell.region.region farewell.fate) farewells ++ raw_calls events

module _ {R : Type 0} (got : R → ℕ → Option Region → R → Type 0) (passed : R → Region → Bool → R → Type 0) where
  -- the callback answered these calls, one after another, and what it is after them
  abbrev pub HasAnswered : R → List RawCall → R → Type 0
  HasAnswered before [] after = after ≡ before
  HasAnswered before (Asked bytes answer ∷ calls) after = (next : R) × got before bytes answer next
      × HasAnswered next calls after
  HasAnswered before (Passed region taken ∷ calls) after = (next : R) × passed before region taken next
      × HasAnswered next calls after

-- a callback that has no scripts, and no region out
abbrev pub no_script : Script
no_script = record { gets = []; puts = []; out = []; faults = 0 }

-- the region stands in the list once
abbrev pub IsOutOnce : Region → List Region → Type 0
IsOutOnce region out = (one other : ℕ) → slice_get out one ≡ Some region → slice_get out other ≡ Some region →
    one ≡ other

-- A callback with scripts answers once: a get as its script, its rule and the regions out say, and a put of a region
-- that is out once.
pub record ScriptsAnswerOnce : Type 0 where
  pub gets : (old : Script) (bytes : ℕ) (one other : Option Region) (new new' : Script) → Gets old bytes one new →
      Gets old bytes other new' → (one ≡ other) × (new ≡ new')
  pub puts : (old : Script) (region : Region) (one other : Bool) (new new' : Script) → IsOutOnce region old.out →
      Puts old region one new → Puts old region other new' → (one ≡ other) × (new ≡ new')
