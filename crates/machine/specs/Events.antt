-- What happens in a pool, and how far a run of it has come.
use Rattle.std.specs.Prelude.{ℕ, ◌||◌, ◌&&◌, ◌==◌, not, Bool, true, false, if◌then◌else◌, List, [], ◌∷◌, ◌++◌, map}
use Rattle.std.specs.Prelude.{filter, find, is_some}
use Rattle.std.specs.Prelude.{Option, None}
use Rattle.std.specs.List.{list_any}
use Rattle.pool_types.specs.declared.policy.RegionRec.{RegionRec}
use Rattle.pool_types.specs.declared.values.Request.{Request}
use Rattle.part_model.specs.declared.holders.HolderKind.TheVariants.{Bin as OfBin}
use Rattle.part_model.specs.declared.moves.Part.{Part}
use Rattle.part_model.specs.Totals.{is_at}
use Rattle.machine.specs.States.{State, nothing_yet}
use Rattle.machine.specs.Journal.{Sight, Nothing_seen, Bins_seen, Raw_called, Tick_drawn, Items_seen, Turn}
use Rattle.machine.specs.Journal.{after_turn}
use Rattle.machine.specs.Answers.{Call}

-- what became of a region at the pool's end: the callback took it back, or did not, or was not asked
pub data Fate : Type 0 where
  Returned : Fate
  Refused : Fate
  Kept : Fate

-- a region, and what became of it
pub record Farewell : Type 0 where
  pub region : RegionRec
  pub fate : Fate

-- What happens in a pool: a seat begins a call, a seat makes a turn, a reset begins and ends, the pool ends. A whole
-- call is its begin and then its turns, the last of which has the answer.
pub data Event : Type 0 where
  Begins : ℕ → Request → Event
  Makes : Turn → Event
  Reset_begins : Event
  Reset_ends : Event
  Ends : List Farewell → Event

-- calls are served, a reset is under way, or the pool has ended
pub data Phase : Type 0 where
  Serving : Phase
  Resetting : Phase
  Ended : Phase

-- How far a run has come: the state, the calls that are begun and not answered, whether two calls were open at once
-- since the pool was made or last reset, its phase, the numbers of the regions that a reset left and of which nothing
-- was taken since, and the number of the cache's clock that was drawn last.
pub record Progress : Type 0 where
  pub state : State
  pub calls : List Call
  pub overlapped : Bool
  pub phase : Phase
  pub untouched : List ℕ
  pub clock : ℕ

-- no call is open, and no two ever were at once: so it is between whole calls
abbrev pub at_rest : State → Progress
at_rest state = record { state = state; calls = []; overlapped = false; phase = Serving; untouched = []; clock = 0 }

-- nothing has happened
abbrev pub no_progress : Progress
no_progress = at_rest nothing_yet

-- the list has a member
abbrev pub has_any : {X : Type 0} → List X → Bool
has_any [] = false
has_any (x ∷ xs) = true

-- the open call of a seat
abbrev pub call_of : Progress → ℕ → Option Call
call_of progress seat = find (λ call. call.seat == seat) progress.calls

-- the call with a turn more
abbrev pub with_step : State → Turn → Call → Call
with_step state turn call = record {
  seat = call.seat;
  request = call.request;
  before = call.before;
  alone = call.alone;
  moments = call.moments ++ record { state = state; turn = turn } ∷ [];
}

-- the open calls after a turn: that of the seat has it, or is answered
abbrev pub calls_after : Progress → Turn → List Call
calls_after progress turn =
    if is_some turn.answer then filter (λ call. not (call.seat == turn.seat)) progress.calls
    else map (λ call. if call.seat == turn.seat then with_step progress.state turn call else call) progress.calls

-- the call once another begins: it is not alone
abbrev pub after_other_begins : Call → Call
after_other_begins call = record {
  seat = call.seat;
  request = call.request;
  before = call.before;
  alone = false;
  moments = call.moments;
}

-- a call of a seat that has made no turn
abbrev pub new_call : Progress → ℕ → Request → Call
new_call progress seat request = record {
  seat = seat;
  request = request;
  before = progress.state;
  alone = not (has_any progress.calls);
  moments = [];
}

-- a seat begins a call
abbrev pub after_begin : Progress → ℕ → Request → Progress
after_begin progress seat request = record {
  state = progress.state;
  calls = map after_other_begins progress.calls ++ new_call progress seat request ∷ [];
  overlapped = progress.overlapped || has_any progress.calls;
  phase = progress.phase;
  untouched = progress.untouched;
  clock = progress.clock;
}

-- a part takes bytes out of bins
abbrev pub is_taken : Part → Bool
is_taken part = is_at OfBin part.from

-- these regions, but those of which a part takes bytes out of bins
abbrev pub untouched_after : List ℕ → List Part → List ℕ
untouched_after untouched parts =
    filter (λ number. not (list_any (λ part. is_taken part && (part.range.place.region == number)) parts)) untouched

-- the number drawn last
abbrev pub clock_after : ℕ → Sight → ℕ
clock_after clock Nothing_seen = clock
clock_after clock (Bins_seen look) = clock
clock_after clock (Raw_called call) = clock
clock_after clock (Tick_drawn tick) = tick
clock_after clock (Items_seen granules items) = clock

-- a seat makes a turn
abbrev pub after_step : Progress → Turn → Progress
after_step progress turn = record {
  state = after_turn progress.state turn;
  calls = calls_after progress turn;
  overlapped = progress.overlapped;
  phase = progress.phase;
  untouched = untouched_after progress.untouched turn.parts;
  clock = clock_after progress.clock turn.seen;
}

-- a pool that has ended has nothing
abbrev pub after_end : State → State
after_end state = record state { held = λ byte. None; regions = []; book = []; blocks = [] }

-- the progress after an event; a reset forgets that calls were open at once
abbrev pub after_event : Progress → Event → Progress
after_event progress (Begins seat request) = after_begin progress seat request
after_event progress (Makes turn) = after_step progress turn
after_event progress Reset_begins = record progress { phase = Resetting }
after_event progress Reset_ends = record progress {
  phase = Serving;
  overlapped = false;
  untouched = map (λ region. region.number) progress.state.regions;
}
after_event progress (Ends farewells) = record progress { state = after_end progress.state; phase = Ended }

-- the progress after several events
abbrev pub after_events : Progress → List Event → Progress
after_events progress [] = progress
after_events progress (event ∷ events) = after_events (after_event progress event) events
