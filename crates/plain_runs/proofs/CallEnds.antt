-- A whole call ends with its answer.
use Rattle.std.proofs.Common.{◌≡◌, ℕ, Bool, true, List, [], ◌∷◌, ◌++◌, map, Some, None, refl, sym, subst}
use Rattle.std.specs.Prelude.{if◌then◌else◌, find, is_some}
use Rattle.std.specs.declared.option.Option.{Option}
use Rattle.pool_types.specs.declared.values.Answer.TheVariants.{Freed as FreedAnswer}
use Rattle.pool_types.specs.declared.values.Request.{Request}
use Rattle.pool_types.specs.declared.values.Request.TheVariants.{Malloc, Aligned, Realloc, AlignedRealloc, Free, Msize, Identify, Exit}
use Rattle.machine.specs.Journal.{Turn}
use Rattle.machine.specs.Events.{Event, Begins, Makes}
use Rattle.machine.specs.Runs.{AreCalls, EndAnswered}
use Rattle.plain_lists.specs.Lists.{OwnSlab, Lists, begun, has_free, taken_back, is_unused}
use Rattle.plain_lists.specs.Whole.{Spot, whole, class_at, newest, spot_at, free_of}
use Rattle.plain_runs.specs.Journal.{events_to}
use Rattle.plain_runs.specs.Steps.{steps_of, begin_step, grant_step, room_steps, room_index, malloc_steps_of, free_step, free_steps, shelf_steps, still_step}
use Rattle.plain_runs.proofs.MallocRuns.{steps_with, steps_are}

-- the last of some turns answers
abbrev pub EndsCall : List Turn → Type 0
EndsCall [] = ⊥
EndsCall (turn ∷ []) = is_some turn.answer ≡ true
EndsCall (turn ∷ next ∷ turns) = EndsCall (next ∷ turns)

ends_with : (turns : List Turn) (last : Turn) → is_some last.answer ≡ true → EndsCall (turns ++ last ∷ [])
ends_with [] last is = is
ends_with (turn ∷ []) last is = is
ends_with (turn ∷ next ∷ turns) last is = ends_with (next ∷ turns) last is

ends_after : (turns : List Turn) (one last : Turn) → is_some last.answer ≡ true → EndsCall (turns ++ one ∷ last ∷ [])
ends_after [] one last is = is
ends_after (turn ∷ []) one last is = is
ends_after (turn ∷ next ∷ turns) one last is = ends_after (next ∷ turns) one last is

-- so does a whole call
pub steps_end : (lists : Lists) (request : Request) → EndsCall (steps_of lists request)
steps_end lists (Malloc size) = by_slab (find (has_free (class_at size)) lists.slabs)
  where
    by_index : (index : Option ℕ) → EndsCall (steps_with lists (class_at size) (room_steps lists (newest lists.stored)) index)
    by_index (Some index) = ends_after (room_steps lists (newest lists.stored)) (begin_step index (class_at size)) (grant_step (begun index (class_at size)) _) refl
    by_index None = refl

    by_slab : (slab : Option OwnSlab) → EndsCall (malloc_steps_of lists (class_at size) slab (room_index lists (newest lists.stored)))
    by_slab (Some slab) = refl
    by_slab None = subst EndsCall (sym (steps_are lists (class_at size) (room_index lists (newest lists.stored)))) (by_index (room_index lists (newest lists.stored)))
steps_end lists (Free None) = refl
steps_end lists (Free (Some place)) = by_spot (spot_at lists place)
  where
    by_use : (spot : Spot) (b : Bool) → EndsCall (free_step spot.slab spot.object spot.number ∷ ((if b then shelf_steps lists (taken_back spot.slab spot.object) else []) ++ still_step (Some FreedAnswer) ∷ []))
    by_use spot b = ends_with (free_step spot.slab spot.object spot.number ∷ (if b then shelf_steps lists (taken_back spot.slab spot.object) else [])) (still_step (Some FreedAnswer)) refl

    by_spot : (spot : Option Spot) → EndsCall (free_steps lists spot (free_of lists place spot).answer)
    by_spot (Some spot) = by_use spot (is_unused (taken_back spot.slab spot.object))
    by_spot None = refl
steps_end lists (Msize None) = refl
steps_end lists (Msize (Some place)) = refl
steps_end lists (Identify None) = refl
steps_end lists (Identify (Some place)) = refl
steps_end lists (Aligned size alignment) = refl
steps_end lists (Realloc place size) = refl
steps_end lists (AlignedRealloc place size alignment) = refl
steps_end lists Exit = refl

-- turns that end a call, and then events that end with an answer
turns_end : (turns : List Turn) (events : List Event) → EndsCall turns → EndAnswered events → EndAnswered (map Makes turns ++ events)
turns_end [] events ends rest = absurd ends
turns_end (turn ∷ []) [] ends rest = ends
turns_end (turn ∷ []) (event ∷ events) ends rest = rest
turns_end (turn ∷ next ∷ turns) events ends rest = turns_end (next ∷ turns) events ends rest

call_ends : (seat : ℕ) (request : Request) (turns : List Turn) (events : List Event) → EndsCall turns → EndAnswered events → EndAnswered (Begins seat request ∷ (map Makes turns ++ events))
call_ends seat request [] events ends rest = absurd ends
call_ends seat request (turn ∷ turns) events ends rest = turns_end (turn ∷ turns) events ends rest

pub calls_end : (lists : Lists) (requests : List Request) → EndAnswered (events_to lists requests)
calls_end lists [] = tt
calls_end lists (request ∷ requests) =
    call_ends 0 request (steps_of lists request) (events_to (whole lists request).lists requests) (steps_end lists request) (calls_end (whole lists request).lists requests)

-- the events are those of calls alone
turns_alone : (turns : List Turn) (events : List Event) → AreCalls events → AreCalls (map Makes turns ++ events)
turns_alone [] events calls = calls
turns_alone (turn ∷ turns) events calls = turns_alone turns events calls

pub calls_alone : (lists : Lists) (requests : List Request) → AreCalls (events_to lists requests)
calls_alone lists [] = tt
calls_alone lists (request ∷ requests) =
    turns_alone (steps_of lists request) (events_to (whole lists request).lists requests) (calls_alone (whole lists request).lists requests)
