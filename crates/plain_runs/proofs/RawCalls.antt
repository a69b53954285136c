-- What whole calls ask the callback: for the region, once.
use Rattle.std.proofs.Common.{◌≡◌, ℕ, Bool, true, false, List, [], ◌∷◌, ◌++◌, length, take, drop, map, Some, None, refl, sym, ◌∙◌, ap, arith, subst, lit<, lit≤, append_assoc}
use Rattle.std.specs.Prelude.{if◌then◌else◌, find, nat_le}
use Rattle.std.specs.List.{flat_map}
use Rattle.std.specs.declared.option.Option.{Option}
use Rattle.pool_types.specs.declared.values.Answer.TheVariants.{Freed as FreedAnswer}
use Rattle.pool_types.specs.declared.values.Region.{Region}
use Rattle.pool_types.specs.declared.values.Request.{Request}
use Rattle.pool_types.specs.declared.values.Request.TheVariants.{Malloc, Aligned, Realloc, AlignedRealloc, Free, Msize, Identify, Exit}
use Rattle.pool_types.specs.Script.{Script, IsByRule, Gets, Puts}
use Rattle.machine.specs.Journal.{RawCall, Asked, Turn}
use Rattle.machine.specs.Callback.{raw_call_of, raw_calls, HasAnswered, no_script}
use Rattle.machine.specs.Events.{Event, Makes}
use Rattle.plain_lists.specs.Lists.{OwnSlab, Block, Lists, first_region, has_free, taken_back, is_unused, changed, without}
use Rattle.plain_lists.specs.Backend.{first_fit, after_put, after_puts, slab_block}
use Rattle.plain_lists.specs.Whole.{Outcome, Spot, whole, class_at, newest, begins_in, malloc_from, stored_room, block_room, region_room, spot_at, free_of, shelved, trimmed}
use Rattle.plain_runs.specs.Journal.{events_to}
use Rattle.plain_runs.specs.Steps.{steps_of, room_steps, block_steps, region_steps, room_index, block_index, region_index, malloc_steps_of, free_step, free_steps, shelf_steps, still_step, trim_steps, puts_steps}
use Rattle.plain_runs.proofs.MallocRuns.{steps_with, steps_are}

-- what turns ask the callback
abbrev pub raw_in : List Turn → List RawCall
raw_in turns = flat_map (λ turn. raw_call_of turn.seen) turns

-- Between a region and another one, these turns ask nothing and the region stays, or they ask for the first region and it comes.
pub data AsksRaw (before : Option Region) (turns : List Turn) (after : Option Region) : Type 0 where
  asks_none : raw_in turns ≡ [] → after ≡ before → AsksRaw before turns after
  asks_once : before ≡ None → raw_in turns ≡ Asked 1048576 (Some first_region) ∷ [] → after ≡ Some first_region → AsksRaw before turns after

puts-raw : (indices : List ℕ) (blocks : List Block) (rest : List Turn) → raw_in (puts_steps indices blocks ++ rest) ≡ raw_in rest
puts-raw [] blocks rest = refl
puts-raw (index ∷ indices) blocks rest = puts-raw indices (after_put (slab_block index) blocks) rest

trim-raw : (stored : List ℕ) (blocks : List Block) (rest : List Turn) → raw_in (trim_steps stored blocks ++ rest) ≡ raw_in rest
trim-raw stored blocks rest = go (nat_le 33 (length stored))
  where
    go : (b : Bool) → raw_in ((if b then puts_steps (take 25 stored) blocks else []) ++ rest) ≡ raw_in rest
    go true = puts-raw (take 25 stored) blocks rest
    go false = refl

trims : (lists : Lists) → (trimmed lists).region ≡ lists.region
trims lists = go (nat_le 33 (length lists.stored))
  where
    go : (b : Bool) → (if b then record lists { stored = drop 25 lists.stored; blocks = after_puts (take 25 lists.stored) lists.blocks } else lists).region ≡ lists.region
    go true = refl
    go false = refl

-- what a whole call asks
pub whole-raw : (lists : Lists) (request : Request) → AsksRaw lists.region (steps_of lists request) (whole lists request).lists.region
whole-raw lists (Malloc size) = by_slab (find (has_free (class_at size)) lists.slabs)
  where
    Asks : List Turn → Outcome → Type 0
    Asks steps outcome = AsksRaw lists.region steps outcome.lists.region

    by_region : (region : Option Region) → lists.region ≡ region → Asks (steps_with lists (class_at size) (region_steps region) (region_index region)) (begins_in lists (class_at size) (region_room lists region))
    by_region None is = asks_once is refl refl
    by_region (Some region) is = asks_none refl refl

    by_block : (block : Option Block) → Asks (steps_with lists (class_at size) (block_steps lists block) (block_index lists block)) (begins_in lists (class_at size) (block_room lists block))
    by_block (Some block) = asks_none refl refl
    by_block None = by_region lists.region refl

    by_stored : (index : Option ℕ) → Asks (steps_with lists (class_at size) (room_steps lists index) (room_index lists index)) (begins_in lists (class_at size) (stored_room lists index))
    by_stored (Some index) = asks_none refl refl
    by_stored None = by_block (first_fit lists.blocks)

    by_slab : (slab : Option OwnSlab) → Asks (malloc_steps_of lists (class_at size) slab (room_index lists (newest lists.stored))) (malloc_from lists (class_at size) slab)
    by_slab (Some slab) = asks_none refl refl
    by_slab None = subst (λ steps. Asks steps (malloc_from lists (class_at size) None)) (sym (steps_are lists (class_at size) (room_index lists (newest lists.stored)))) (by_stored (newest lists.stored))
whole-raw lists (Free None) = asks_none refl refl
whole-raw lists (Free (Some place)) = by_spot (spot_at lists place)
  where
    by_use : (spot : Spot) (b : Bool) → AsksRaw lists.region (free_step spot.slab spot.object spot.number ∷ ((if b then shelf_steps lists (taken_back spot.slab spot.object) else []) ++ still_step (Some FreedAnswer) ∷ []))
        (if b then shelved lists spot.slab.index else record lists { slabs = changed (taken_back spot.slab spot.object) lists.slabs }).region
    by_use spot true = asks_none (trim-raw (lists.stored ++ spot.slab.index ∷ []) lists.blocks (still_step (Some FreedAnswer) ∷ []))
        (trims (record lists { slabs = without spot.slab.index lists.slabs; stored = lists.stored ++ spot.slab.index ∷ [] }))
    by_use spot false = asks_none refl refl

    by_spot : (spot : Option Spot) → AsksRaw lists.region (free_steps lists spot (free_of lists place spot).answer) (free_of lists place spot).lists.region
    by_spot (Some spot) = by_use spot (is_unused (taken_back spot.slab spot.object))
    by_spot None = asks_none refl refl
whole-raw lists (Msize None) = asks_none refl refl
whole-raw lists (Msize (Some place)) = asks_none refl refl
whole-raw lists (Identify None) = asks_none refl refl
whole-raw lists (Identify (Some place)) = asks_none refl refl
whole-raw lists (Aligned size alignment) = asks_none refl refl
whole-raw lists (Realloc place size) = asks_none refl refl
whole-raw lists (AlignedRealloc place size alignment) = asks_none refl refl
whole-raw lists Exit = asks_none refl refl

-- the calls of turns, and then those of events
raw_calls-turns : (turns : List Turn) (events : List Event) → raw_calls (map Makes turns ++ events) ≡ raw_in turns ++ raw_calls events
raw_calls-turns [] events = refl
raw_calls-turns (turn ∷ turns) events = ap (λ calls. raw_call_of turn.seen ++ calls) (raw_calls-turns turns events) ∙ sym (append_assoc (raw_call_of turn.seen) (raw_in turns) (raw_calls events))

-- the callback as it is where no region came yet
abbrev pub IsAtRaw : Option Region → Script → Type 0
IsAtRaw None before = before ≡ no_script
IsAtRaw (Some region) before = Unit {0}

-- the rule gives the first region
pub first_by_rule : IsByRule [] 1048576 first_region
first_by_rule = record {
  exact = refl;
  least = record { steps = 0; multiple = refl; free = refl; least = λ k below. absurd (omega (arith, below)) };
  ends = lit≤ tt;
}

-- a callback without scripts after it gave the first region
abbrev pub gave_first : Script
gave_first = record { gets = []; puts = []; out = first_region ∷ []; faults = 0 }

pub first_given : Gets no_script 1048576 (Some first_region) gave_first
first_given = record { answered = (lit< tt, first_by_rule); gets = refl; puts = refl; out = refl; faults = refl }

-- a callback without scripts answers so
pub raw_follows : (lists : Lists) (requests : List Request) (before : Script) → IsAtRaw lists.region before → (after : Script) × HasAnswered Gets Puts before (raw_calls (events_to lists requests)) after
raw_follows lists [] before at = (before, refl)
raw_follows lists (request ∷ requests) before at =
    subst (λ calls. (after : Script) × HasAnswered Gets Puts before calls after) (sym (raw_calls-turns (steps_of lists request) (events_to (whole lists request).lists requests)))
    (by_asks (whole-raw lists request) (λ next at_next. raw_follows (whole lists request).lists requests next at_next))
  where
    Goes : List RawCall → Script → Type 0
    Goes calls script = (after : Script) × HasAnswered Gets Puts script (calls ++ raw_calls (events_to (whole lists request).lists requests)) after

    by_asks : AsksRaw lists.region (steps_of lists request) (whole lists request).lists.region →
        ((next : Script) → IsAtRaw (whole lists request).lists.region next → Goes [] next) → Goes (raw_in (steps_of lists request)) before
    by_asks (asks_none none same) later = subst (λ calls. Goes calls before) (sym none) (later before (subst (λ r. IsAtRaw r before) (sym same) at))
    by_asks (asks_once first once came) later =
        let fresh : before ≡ no_script = subst (λ r. IsAtRaw r before) first at in
        let rest = later gave_first (subst (λ r. IsAtRaw r gave_first) (sym came) tt) in
        subst (λ calls. Goes calls before) (sym once) (rest.0, (gave_first, subst (λ b. Gets b 1048576 (Some first_region) gave_first) (sym fresh) first_given, rest.1))
