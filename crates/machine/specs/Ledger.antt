-- Which objects a run grants, and which it frees.
use Rattle.std.specs.Prelude.{◌≡◌, ◌≢◌, ◌↔◌, if◌then◌else◌, List, [], ◌∷◌, ◌++◌, Contains, Option, Some, None}
use Rattle.std.specs.List.{flat_map}
use Rattle.pool_types.specs.declared.values.Answer.{Answer}
use Rattle.pool_types.specs.declared.values.Answer.TheVariants.{Got}
use Rattle.pool_types.specs.declared.values.Leak.{Leak}
use Rattle.part_model.specs.declared.holders.Holder.{Holder}
use Rattle.part_model.specs.declared.holders.Holder.TheVariants.{Object}
use Rattle.part_model.specs.declared.moves.Part.{Part}
use Rattle.part_model.specs.declared.moves.Range.{Range}
use Rattle.machine.specs.States.{Terms}
use Rattle.machine.specs.Journal.{Turn}
use Rattle.machine.specs.Answers.{Call, granted, moved_parts, IsObject}
use Rattle.machine.specs.Events.{Event, Begins, Makes, Reset_begins, Reset_ends, Ends, Ended, Progress, no_progress}
use Rattle.machine.specs.Events.{has_any, call_of, with_step, after_event, after_events}
use Rattle.machine.specs.Runs.{IsRun, end_of}

-- the object that a range of a holder is, if it is one
abbrev pub object_at : Range → Option Holder → List Leak
object_at range (Some (Object grant)) = record { place = range.place; usable = range.bytes; grant = grant } ∷ []
object_at range holder = []

-- the object that a part grants, and the one that it frees
abbrev pub granted_by : Part → List Leak
granted_by part = object_at part.range part.to

abbrev pub freed_by : Part → List Leak
freed_by part = object_at part.range part.from

-- all objects that a run grants, in order
abbrev pub granted_in : List Event → List Leak
granted_in [] = []
granted_in (Begins seat request ∷ events) = granted_in events
granted_in (Makes turn ∷ events) = flat_map granted_by turn.parts ++ granted_in events
granted_in (Reset_begins ∷ events) = granted_in events
granted_in (Reset_ends ∷ events) = granted_in events
granted_in (Ends farewells ∷ events) = granted_in events

-- and all that it frees, in calls and in resets
abbrev pub freed_in : List Event → List Leak
freed_in [] = []
freed_in (Begins seat request ∷ events) = freed_in events
freed_in (Makes turn ∷ events) = flat_map freed_by turn.parts ++ freed_in events
freed_in (Reset_begins ∷ events) = freed_in events
freed_in (Reset_ends ∷ events) = freed_in events
freed_in (Ends farewells ∷ events) = freed_in events

-- In a run of a pool that has not ended, the objects that are held are those that were granted, less those that were
-- freed: by place, bytes and grant.
abbrev pub HeldAreGrantedLessFreed : Type 0
HeldAreGrantedLessFreed = (terms : Terms) (events : List Event) → IsRun terms events →
    (after_events no_progress events).phase ≢ Ended → (leak : Leak) →
    IsObject (end_of events) leak.place leak.usable leak.grant
    ↔ (Contains (granted_in events) leak × (Contains (freed_in events) leak → ⊥))

-- The object that an answer says was got, where the call granted one. The answer of a realloc whose object stayed is
-- not new.
abbrev pub got_by : Call → Option Answer → List Leak
got_by call (Some (Got place usable grant)) =
    if has_any (granted (moved_parts call.moments))
    then record { place = place; usable = usable; grant = grant } ∷ []
    else []
got_by call answer = []

-- the call that a turn was made in, with that turn
abbrev pub got_at : Progress → Turn → Option Call → List Leak
got_at progress turn (Some call) = got_by (with_step progress.state turn call) turn.answer
got_at progress turn None = []

-- all objects that answers say were got, and that are new
abbrev pub got_in : Progress → List Event → List Leak
got_in progress [] = []
got_in progress (Begins seat request ∷ events) = got_in (after_event progress (Begins seat request)) events
got_in progress (Makes turn ∷ events) =
    got_at progress turn (call_of progress turn.seat) ++ got_in (after_event progress (Makes turn)) events
got_in progress (Reset_begins ∷ events) = got_in (after_event progress Reset_begins) events
got_in progress (Reset_ends ∷ events) = got_in (after_event progress Reset_ends) events
got_in progress (Ends farewells ∷ events) = got_in (after_event progress (Ends farewells)) events

-- Where no call is open, the objects that are held are those that new answers got, less those that were freed.
abbrev pub HeldAreGotLessFreed : Type 0
HeldAreGotLessFreed = (terms : Terms) (events : List Event) → IsRun terms events →
    (after_events no_progress events).calls ≡ [] → (after_events no_progress events).phase ≢ Ended → (leak : Leak) →
    IsObject (end_of events) leak.place leak.usable leak.grant
    ↔ (Contains (got_in no_progress events) leak × (Contains (freed_in events) leak → ⊥))
