-- The journal of whole calls.
use Rattle.std.proofs.Common.{◌≡◌, ℕ, ◌+◌, ◌-◌, ◌^◌, ◌<◌, ◌≤◌, Bool, true, false, List, [], ◌∷◌, ◌++◌, length, take, drop, Some, None, refl, sym, ◌∙◌, ap, arith, map, subst, inl, inr}
use Rattle.std.specs.Prelude.{All, Contains, if◌then◌else◌, find, nat_le}
use Rattle.std.specs.declared.option.Option.{Option}
use Rattle.std.proofs.lemmas.Bool.{cases_Bool}
use Rattle.part_model.specs.Holding.{same_region}
use Rattle.std.proofs.lemmas.List.Elements.{All-head, All-tail}
use Rattle.pool_types.specs.declared.values.Place.{Place}
use Rattle.pool_types.specs.declared.values.Region.{Region}
use Rattle.pool_types.specs.declared.values.Answer.{Answer}
use Rattle.pool_types.specs.declared.values.Answer.TheVariants.{Freed as FreedAnswer}
use Rattle.pool_types.specs.declared.values.Request.{Request}
use Rattle.pool_types.specs.declared.values.Request.TheVariants.{Malloc, Aligned, Realloc, AlignedRealloc, Free, Msize, Identify, Exit}
use Rattle.pool_types.specs.declared.policy.RegionRec.{RegionRec}
use Rattle.machine.specs.States.{State, nothing_yet, fixed_terms}
use Rattle.machine.specs.Journal.{Turn}
use Rattle.machine.specs.Events.{Event, Makes, Progress, at_rest, after_events}
use Rattle.machine.specs.Leaks.{AreLeaks}
use Rattle.machine.specs.Callback.{no_script}
use Rattle.machine.specs.Runs.{IsRunFrom, requests_in, answers_in, end_of}
use Rattle.plain_lists.specs.Lists.{OwnSlab, Block, Lists, no_lists, first_region, has_free, taken_back, is_unused, changed, without}
use Rattle.plain_lists.specs.Backend.{first_fit, after_put, after_puts, slab_block}
use Rattle.plain_lists.specs.Whole.{Outcome, Spot, whole, IsServed, lists_after, answers_to, class_at, newest, begins_in, malloc_from, stored_room, block_room, region_room, spot_at, free_of, shelved, trimmed}
use Rattle.plain_lists.proofs.Beside.{fresh_good}
use Rattle.plain_lists.proofs.Calls.{whole_good}
use Rattle.list_laws.proofs.Members.{Contains-none, Contains-single}
use Rattle.plain_runs.specs.Steps.{one_region, at_offset, steps_of, room_steps, block_steps, region_steps, room_index, block_index, region_index, malloc_steps_of, free_step, free_steps, shelf_steps, still_step, trim_steps, puts_steps}
use Rattle.plain_runs.specs.Journal.{events_to}
use Rattle.part_model.specs.Totals.{totals_of}
use Rattle.plain_lists.specs.Held.{leaks_at}
use Rattle.plain_runs.proofs.HeldTotals.{totals_hold}
use Rattle.plain_runs.proofs.HeldLeaks.{leaks_are}
use Rattle.plain_runs.specs.Laws.{WholeCallsRun, WholeCallsHold}
use Rattle.plain_runs.proofs.Layouts.{Away, held_by, regions_of}
use Rattle.plain_runs.proofs.Moves.{plain_no_slab}
use Rattle.plain_runs.proofs.ObjectSteps.{held_by-in, held_by-out}
use Rattle.plain_runs.proofs.LaidOut.{Holds}
use Rattle.plain_runs.proofs.MallocRuns.{WholeRuns, malloc_runs, steps_with, steps_are}
use Rattle.plain_runs.proofs.LookRuns.{msize_runs, identify_runs}
use Rattle.plain_runs.proofs.FreeRuns.{free_runs}
use Rattle.plain_runs.proofs.RawCalls.{raw_follows}
use Rattle.plain_runs.proofs.CallEnds.{calls_end, calls_alone}

-- a whole call
pub whole_runs : (state : State) (lists : Lists) (request : Request) → IsServed request → lists.granted < 2 ^ 55 - 1 → Holds state lists → WholeRuns state request (steps_of lists request) (whole lists request).lists
whole_runs state lists (Malloc size) served room holds = malloc_runs state lists size served room holds (whole_good lists (Malloc size) holds.good served)
whole_runs state lists (Free place) served room holds = free_runs state lists place holds (whole_good lists (Free place) holds.good served)
whole_runs state lists (Msize None) served room holds = msize_runs state lists None holds
whole_runs state lists (Msize (Some place)) served room holds = msize_runs state lists (Some place) holds
whole_runs state lists (Identify None) served room holds = identify_runs state lists None holds
whole_runs state lists (Identify (Some place)) served room holds = identify_runs state lists (Some place) holds
whole_runs state lists (Aligned size alignment) served room holds = absurd served
whole_runs state lists (Realloc place size) served room holds = absurd served
whole_runs state lists (AlignedRealloc place size alignment) served room holds = absurd served
whole_runs state lists Exit served room holds = absurd served

-- nothing holds of no region
pub nothing_holds : Holds nothing_yet no_lists
nothing_holds = record {
  layout = λ granule. Away;
  knows = record {
    held_is = λ byte. by_test byte;
    regions_are = refl;
    next_is = refl;
    last_is = refl;
    in_book = λ slab member. absurd (Contains-none slab member);
    booked = λ granule slab is. absurd (plain_no_slab Away slab refl is);
    slabs_are = λ granule slab is. absurd (plain_no_slab Away slab refl is);
  };
  lays = record {
    slabs_are = λ slab member. absurd (Contains-none slab member);
    stored_are = λ index member. absurd (Contains-none index member);
    blocks_are = λ block member. absurd (Contains-none block member);
    away = λ g off. refl;
  };
  good = fresh_good;
  blocks = λ range member. absurd (Contains-none range member);
}
  where
    by_test : (byte : Place) → None ≡ held_by (λ granule. Away) byte
    by_test byte = elim (cases_Bool (same_region byte (at_offset 0))) [
      | inl here ↦ sym (held_by-in (λ granule. Away) byte Away here refl)
      | inr other ↦ sym (held_by-out (λ granule. Away) byte other)
    ]

-- whole calls are a run, after which the lists hold
pub record JournalRuns (state : State) (lists : Lists) (requests : List Request) : Type 0 where
  pub next : State
  pub run : IsRunFrom fixed_terms (at_rest state) (events_to lists requests)
  pub holds : Holds next (lists_after lists requests)
  pub ends : after_events (at_rest state) (events_to lists requests) ≡ at_rest next

-- a call grants one object at most
pub granted_whole : (lists : Lists) (request : Request) → (whole lists request).lists.granted ≤ lists.granted + 1
granted_whole lists (Malloc size) = by_slab (find (has_free (class_at size)) lists.slabs)
  where
    by_region : (region : Option Region) → (begins_in lists (class_at size) (region_room lists region)).lists.granted ≤ lists.granted + 1
    by_region None = omega arith
    by_region (Some region) = omega arith

    by_block : (block : Option Block) → (begins_in lists (class_at size) (block_room lists block)).lists.granted ≤ lists.granted + 1
    by_block (Some block) = omega arith
    by_block None = by_region lists.region

    by_stored : (index : Option ℕ) → (begins_in lists (class_at size) (stored_room lists index)).lists.granted ≤ lists.granted + 1
    by_stored (Some index) = omega arith
    by_stored None = by_block (first_fit lists.blocks)

    by_slab : (slab : Option OwnSlab) → (malloc_from lists (class_at size) slab).lists.granted ≤ lists.granted + 1
    by_slab (Some slab) = omega arith
    by_slab None = by_stored (newest lists.stored)
granted_whole lists (Free None) = omega arith
granted_whole lists (Free (Some place)) = by_spot (spot_at lists place)
  where
    trims : (lists : Lists) → (trimmed lists).granted ≡ lists.granted
    trims lists = go (nat_le 33 (length lists.stored))
      where
        go : (b : Bool) → (if b then record lists { stored = drop 25 lists.stored; blocks = after_puts (take 25 lists.stored) lists.blocks } else lists).granted ≡ lists.granted
        go true = refl
        go false = refl

    by_use : (spot : Spot) (b : Bool) → (if b then shelved lists spot.slab.index else record lists { slabs = changed (taken_back spot.slab spot.object) lists.slabs }).granted ≤ lists.granted + 1
    by_use spot true = let same = trims (record lists { slabs = without spot.slab.index lists.slabs; stored = lists.stored ++ spot.slab.index ∷ [] }) in omega (arith, same)
    by_use spot false = omega arith

    by_spot : (spot : Option Spot) → (free_of lists place spot).lists.granted ≤ lists.granted + 1
    by_spot (Some spot) = by_use spot (is_unused (taken_back spot.slab spot.object))
    by_spot None = omega arith
granted_whole lists (Msize None) = omega arith
granted_whole lists (Msize (Some place)) = omega arith
granted_whole lists (Identify None) = omega arith
granted_whole lists (Identify (Some place)) = omega arith
granted_whole lists (Aligned size alignment) = omega arith
granted_whole lists (Realloc place size) = omega arith
granted_whole lists (AlignedRealloc place size alignment) = omega arith
granted_whole lists Exit = omega arith

pub journal_runs : (state : State) (lists : Lists) (requests : List Request) → All IsServed requests → lists.granted + length requests < 2 ^ 55 - 1 → Holds state lists → JournalRuns state lists requests
journal_runs state lists [] served room holds = record { next = state; run = tt; holds = holds; ends = refl }
journal_runs state lists (request ∷ requests) served room holds =
    let call = whole_runs state lists request (All-head IsServed request requests served) (omega arith) holds in
    let more : (whole lists request).lists.granted + length requests < 2 ^ 55 - 1 = omega (arith, granted_whole lists request) in
    let later = journal_runs call.next (whole lists request).lists requests (All-tail IsServed request requests served) more call.holds in
    record {
      next = later.next;
      run = call.runs.run (events_to (whole lists request).lists requests) later.run;
      holds = later.holds;
      ends = call.runs.ends (events_to (whole lists request).lists requests) ∙ later.ends;
    }

-- what the steps of a call ask and answer
steps-requests : (steps : List Turn) (events : List Event) → requests_in (map Makes steps ++ events) ≡ requests_in events
steps-requests [] events = refl
steps-requests (step ∷ steps) events = steps-requests steps events

pub requests_in-events : (lists : Lists) (requests : List Request) → requests_in (events_to lists requests) ≡ requests
requests_in-events lists [] = refl
requests_in-events lists (request ∷ requests) =
    ap (λ (rs : List Request). request ∷ rs) (steps-requests (steps_of lists request) (events_to (whole lists request).lists requests) ∙ requests_in-events (whole lists request).lists requests)

-- steps that answer nothing
puts-silent : (indices : List ℕ) (blocks : List Block) (rest : List Turn) (events : List Event) → answers_in (map Makes (puts_steps indices blocks ++ rest) ++ events) ≡ answers_in (map Makes rest ++ events)
puts-silent [] blocks rest events = refl
puts-silent (index ∷ indices) blocks rest events = puts-silent indices (after_put (slab_block index) blocks) rest events

trim-silent : (stored : List ℕ) (blocks : List Block) (rest : List Turn) (events : List Event) → answers_in (map Makes (trim_steps stored blocks ++ rest) ++ events) ≡ answers_in (map Makes rest ++ events)
trim-silent stored blocks rest events = go (nat_le 33 (length stored))
  where
    go : (b : Bool) → answers_in (map Makes ((if b then puts_steps (take 25 stored) blocks else []) ++ rest) ++ events) ≡ answers_in (map Makes rest ++ events)
    go true = puts-silent (take 25 stored) blocks rest events
    go false = refl

-- the answer of a call
steps-answers : (lists : Lists) (request : Request) (events : List Event) → answers_in (map Makes (steps_of lists request) ++ events) ≡ (whole lists request).answer ∷ answers_in events
steps-answers lists (Malloc size) events = by_slab (find (has_free (class_at size)) lists.slabs)
  where
    Answers : List Turn → Outcome → Type 0
    Answers steps outcome = answers_in (map Makes steps ++ events) ≡ outcome.answer ∷ answers_in events

    by_region : (region : Option Region) → Answers (steps_with lists (class_at size) (region_steps region) (region_index region)) (begins_in lists (class_at size) (region_room lists region))
    by_region None = refl
    by_region (Some region) = refl

    by_block : (block : Option Block) → Answers (steps_with lists (class_at size) (block_steps lists block) (block_index lists block)) (begins_in lists (class_at size) (block_room lists block))
    by_block (Some block) = refl
    by_block None = by_region lists.region

    by_stored : (index : Option ℕ) → Answers (steps_with lists (class_at size) (room_steps lists index) (room_index lists index)) (begins_in lists (class_at size) (stored_room lists index))
    by_stored (Some index) = refl
    by_stored None = by_block (first_fit lists.blocks)

    by_slab : (slab : Option OwnSlab) → Answers (malloc_steps_of lists (class_at size) slab (room_index lists (newest lists.stored))) (malloc_from lists (class_at size) slab)
    by_slab (Some slab) = refl
    by_slab None = ap (λ steps. answers_in (map Makes steps ++ events)) (steps_are lists (class_at size) (room_index lists (newest lists.stored))) ∙ by_stored (newest lists.stored)
steps-answers lists (Free None) events = refl
steps-answers lists (Free (Some place)) events = by_spot (spot_at lists place)
  where
    by_use : (spot : Spot) (b : Bool) → answers_in (map Makes (free_step spot.slab spot.object spot.number ∷ ((if b then shelf_steps lists (taken_back spot.slab spot.object) else []) ++ still_step (Some FreedAnswer) ∷ [])) ++ events) ≡ FreedAnswer ∷ answers_in events
    by_use spot true = trim-silent (lists.stored ++ spot.slab.index ∷ []) lists.blocks (still_step (Some FreedAnswer) ∷ []) events
    by_use spot false = refl

    by_spot : (spot : Option Spot) → answers_in (map Makes (free_steps lists spot (free_of lists place spot).answer) ++ events) ≡ (free_of lists place spot).answer ∷ answers_in events
    by_spot (Some spot) = by_use spot (is_unused (taken_back spot.slab spot.object))
    by_spot None = refl
steps-answers lists (Msize None) events = refl
steps-answers lists (Msize (Some place)) events = refl
steps-answers lists (Identify None) events = refl
steps-answers lists (Identify (Some place)) events = refl
steps-answers lists (Aligned size alignment) events = refl
steps-answers lists (Realloc place size) events = refl
steps-answers lists (AlignedRealloc place size alignment) events = refl
steps-answers lists Exit events = refl

pub answers_in-events : (lists : Lists) (requests : List Request) → answers_in (events_to lists requests) ≡ answers_to lists requests
answers_in-events lists [] = refl
answers_in-events lists (request ∷ requests) =
    steps-answers lists request (events_to (whole lists request).lists requests)
    ∙ ap (λ (answers : List Answer). (whole lists request).answer ∷ answers) (answers_in-events (whole lists request).lists requests)

-- each region is the one that comes first
regions_first : (region : Option Region) (rec : RegionRec) → Contains (regions_of region) rec → rec.region ≡ first_region
regions_first None rec member = absurd (Contains-none rec member)
regions_first (Some region) rec member = ap (λ (r : RegionRec). r.region) (sym (Contains-single one_region rec member))

-- whole calls are a run of the partition machine
pub whole_calls_run : WholeCallsRun
whole_calls_run requests served few =
    let runs = journal_runs nothing_yet no_lists requests served (omega arith) nothing_holds in
    record {
      run = (record { valid = refl; supported = refl; limits_in = ((refl, refl, refl), refl) }, runs.run);
      calls = calls_alone no_lists requests;
      ends = calls_end no_lists requests;
      asked = requests_in-events no_lists requests;
      answered = answers_in-events no_lists requests;
      raw = raw_follows no_lists requests no_script refl;
      regions = λ region member. regions_first (lists_after no_lists requests).region region
          (subst (λ (rs : List RegionRec). Contains rs region) (ap (λ (p : Progress). p.state.regions) runs.ends ∙ runs.holds.knows.regions_are) member);
    }

-- and at its end the partition holds what the lists hold
pub whole_calls_hold : WholeCallsHold
whole_calls_hold requests served few =
    let runs = journal_runs nothing_yet no_lists requests served (omega arith) nothing_holds in
    let same : end_of (events_to no_lists requests) ≡ runs.next = ap (λ (p : Progress). p.state) runs.ends in
    record {
      totals = ap (λ (s : State). totals_of s.held) same ∙ totals_hold runs.next (lists_after no_lists requests) runs.holds;
      leaks = subst (λ s. AreLeaks s (leaks_at (lists_after no_lists requests))) (sym same) (leaks_are runs.next (lists_after no_lists requests) runs.holds);
    }
