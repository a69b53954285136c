-- The steps of a call, one after another.
use Rattle.std.proofs.Common.{◌≡◌, ◌⊎◌, arith, length, filter, Bool, true, false, not, ◌&&◌, List, [], ◌∷◌, ◌++◌, Some, None, refl, sym, ◌∙◌, ap, inl, inr, subst, map, lit<, append_assoc, append-nil}
use Rattle.std.specs.Prelude.{if◌then◌else◌, cond}
use Rattle.std.specs.List.{list_any}
use Rattle.std.specs.Bool.{OnTrue}
use Rattle.std.specs.declared.option.Option.{Option}
use Rattle.std.proofs.lemmas.Bool.{OnTrue_from}
use Rattle.std.proofs.lemmas.Grind.{flat_map-append}
use Rattle.std.proofs.lemmas.List.{map-append}
use Rattle.pool_types.specs.declared.values.Answer.{Answer}
use Rattle.pool_types.specs.declared.values.Request.{Request}
use Rattle.pool_types.specs.declared.policy.RegionRec.{RegionRec}
use Rattle.part_model.specs.declared.holders.HolderKind.TheVariants.{LargeHead as OfLargeHead}
use Rattle.part_model.specs.declared.moves.Part.{Part}
use Rattle.part_model.specs.Totals.{is_at}
use Rattle.machine.specs.States.{State, fixed_terms}
use Rattle.machine.specs.Ranges.{Each}
use Rattle.machine.specs.Journal.{Turn, BookChange, Sight, Nothing_seen, is_object, after_turn, after_turns}
use Rattle.machine.specs.Answers.{Call, Moment, AtStep, moved_parts, granted, lasting, ended_but, same_object}
use Rattle.machine.specs.Suits.{wants_object, place_to_free}
use Rattle.machine.specs.Cleaning.{tick_of, is_cleanup, AsksAll, is_large, IsCleaned}
use Rattle.machine.specs.Events.{Event, Begins, Makes, Progress, Serving, clock_after, at_rest, after_events}
use Rattle.machine.specs.Turns.{makes_large, is_leaving, Due, Nothing_due, due_seen, due_moved, due_after, IsTurnOf, MayStep, IsMoveOf, MayEnd}
use Rattle.machine.specs.Runs.{MayBegin, IsRunFrom}
use Rattle.machine.proofs.CallerLemmas.{each-map, each-append}
use Rattle.plain_runs.specs.Steps.{step_of}
use Rattle.plain_runs.proofs.Moves.{IsQuiet, none_any, IsMade}
use Rattle.plain_runs.proofs.GranuleSteps.{IsQuietStep, quiet_stays}

-- a call of the one seat that has made these steps, and while it is open
abbrev pub call_with : State → Request → List Moment → Call
call_with before request moments = record { seat = 0; request = request; before = before; alone = true; moments = moments }

abbrev pub calling : State → Call → Progress
calling state call = record { state = state; calls = call ∷ []; overlapped = false; phase = Serving; untouched = []; clock = 0 }

-- a step of a call, and the state in which it was made
abbrev pub moment : State → Turn → Moment
moment state turn = record { state = state; turn = turn }

abbrev pub moments_of : State → List Turn → List Moment
moments_of state [] = []
moments_of state (turn ∷ turns) = moment state turn ∷ moments_of (after_turn state turn) turns

-- a step that answers nothing may be made in a call on this request that has made these turns
pub record IsStep (request : Request) (before state : State) (moments : List Moment) (turn : Turn) : Type 0 where
  pub parts : List Part
  pub book : List BookChange
  pub region : Option RegionRec
  pub seen : Sight
  pub is : turn ≡ step_of parts book region seen None
  pub clock : clock_after 0 seen ≡ 0
  pub made : IsMade state parts book region
  pub fits : IsTurnOf fixed_terms (calling state (call_with before request moments)) (step_of parts book region seen None) (call_with before request moments)

-- the steps lead from one state to another
pub record Lead (request : Request) (before state : State) (moments : List Moment) (turns : List Turn) (next : State) (later : List Moment) : Type 0 where
  pub run : (events : List Event) → IsRunFrom fixed_terms (calling next (call_with before request later)) events →
      IsRunFrom fixed_terms (calling state (call_with before request moments)) (map Makes turns ++ events)
  pub ends : (events : List Event) → after_events (calling state (call_with before request moments)) (map Makes turns ++ events) ≡ after_events (calling next (call_with before request later)) events

-- one step
pub one_leads : (request : Request) (before state : State) (moments : List Moment) (turn : Turn) → IsStep request before state moments turn →
    Lead request before state moments (turn ∷ []) (after_turn state turn) (moments ++ moment state turn ∷ [])
one_leads request before state moments turn step =
    subst (λ e. Lead request before state moments (e ∷ []) (after_turn state e) (moments ++ moment state e ∷ [])) (sym step.is) (record {
      run = λ events rest. (
        record { whole = step.made.whole; apart = step.made.apart; there = step.made.there; lawful = step.made.lawful; fits = step.fits },
        subst (λ c. IsRunFrom fixed_terms (record (calling (after_turn state (now step)) (call_with before request (moments ++ moment state (now step) ∷ []))) { clock = c }) events) (sym step.clock) rest,
      );
      ends = λ events. ap (λ c. after_events (record (calling (after_turn state (now step)) (call_with before request (moments ++ moment state (now step) ∷ []))) { clock = c }) events) step.clock;
    })
  where
    now : IsStep request before state moments turn → Turn
    now step = step_of step.parts step.book step.region step.seen None

-- steps after others
pub lead_on : (request : Request) (before state : State) (moments : List Moment) (turn : Turn) (turns : List Turn) (next : State) (later last : List Moment) (end' : State) →
    Lead request before state moments (turn ∷ []) next later → Lead request before next later turns end' last → Lead request before state moments (turn ∷ turns) end' last
lead_on request before state moments turn turns next later last end' one other = record {
  run = λ events rest. one.run (map Makes turns ++ events) (other.run events rest);
  ends = λ events. one.ends (map Makes turns ++ events) ∙ other.ends events;
}

-- quiet steps
abbrev pub AreQuiet : State → List Turn → Type 0
AreQuiet state [] = Unit {0}
AreQuiet state (turn ∷ turns) = IsQuietStep state turn × AreQuiet (after_turn state turn) turns

-- parts to no object, and from none
pub granted_none : (parts : List Part) → Each (λ (part : Part). is_object part.to ≡ false) parts → granted parts ≡ []
granted_none [] all = refl
granted_none (part ∷ parts) (first, rest) = ap (λ (b : Bool). cond b (part ∷ granted parts) (granted parts)) first ∙ granted_none parts rest

pub ended_none : (made parts : List Part) → Each (λ (part : Part). is_object part.from ≡ false) parts → ended_but made parts ≡ []
ended_none made [] all = refl
ended_none made (part ∷ parts) (first, rest) =
    ap (λ (b : Bool). if b && not (list_any (λ earlier. same_object earlier.to part.from) made) then part ∷ ended_but (part ∷ made) parts else ended_but (part ∷ made) parts) first
    ∙ ended_none (part ∷ made) parts rest

pub lasting_one : (parts : List Part) (last : Part) → Each (λ (part : Part). is_object part.to ≡ false) parts → is_object last.to ≡ true → lasting (parts ++ last ∷ []) ≡ last ∷ []
lasting_one [] last all is = ap (λ (b : Bool). if b && not false then last ∷ [] else []) is
lasting_one (part ∷ parts) last (first, rest) is =
    ap (λ (b : Bool). if b && not (list_any (λ later. same_object later.from part.to) (parts ++ last ∷ [])) then part ∷ lasting (parts ++ last ∷ []) else lasting (parts ++ last ∷ [])) first
    ∙ lasting_one parts last rest is

pub quiet_from : (parts : List Part) → Each IsQuiet parts → Each (λ (part : Part). is_object part.from ≡ false) parts
quiet_from parts quiet = each-map IsQuiet (λ (part : Part). is_object part.from ≡ false) (λ part q. q.from) parts quiet

pub quiet_none : (parts : List Part) → Each IsQuiet parts → Each (λ (part : Part). is_object part.to ≡ false) parts
quiet_none parts quiet = each-map IsQuiet (λ (part : Part). is_object part.to ≡ false) (λ part q. q.to) parts quiet

-- what quiet parts may do in any call
pub quiet_moves : (call : Call) (parts : List Part) → Each IsQuiet parts → IsMoveOf fixed_terms call parts
quiet_moves call parts quiet = record {
  grants = OnTrue_from (not (wants_object call.request)) _ (λ wants. granted_none parts (quiet_none parts quiet));
  ends = each-map IsQuiet (MayEnd call) (λ part q. no_end part (is_object part.from) q.from) parts quiet;
  keeps = quiet_stays parts quiet;
}
  where
    no_end : (part : Part) (b : Bool) → b ≡ false →
        OnTrue b ((place_to_free call.request ≡ Some part.range.place) ⊎ (list_any (λ earlier. same_object earlier.to part.from) (moved_parts call.moments) ≡ true))
    no_end part false is = tt
    no_end part true is = absurd (let e = is in cc)

-- a part that makes no large object and ends none
pub small_makes : (part : Part) → is_large part ≡ false → makes_large part ≡ false
small_makes part small = by_tests (is_at OfLargeHead part.from) (is_at OfLargeHead part.to) small
  where
    by_tests : (f t : Bool) → (if f then true else t) ≡ false → t ≡ false
    by_tests true t is = absurd (let clash = is in cc)
    by_tests false t is = is

pub quiet_step : (request : Request) (before state : State) (moments : List Moment) (turn : Turn) → IsQuietStep state turn → IsStep request before state moments turn
quiet_step request before state moments turn step = record {
  parts = step.parts;
  book = step.book;
  region = None;
  seen = Nothing_seen;
  is = step.is;
  clock = refl;
  made = step.made;
  fits = record {
    sight = tt;
    moves = quiet_moves (call_with before request moments) step.parts step.quiet;
    large = OnTrue_from (list_any makes_large step.parts) _ (λ large. absurd (let clash : true ≡ false = sym large
        ∙ none_any makes_large step.parts (each-map IsQuiet (λ (part : Part). makes_large part ≡ false) (λ part q. small_makes part q.small) step.parts step.quiet) in cc));
    slabs = step.slabs state (call_with before request moments);
    comes = tt;
    leaves = OnTrue_from (list_any is_leaving step.parts) _ (λ leaves. absurd (let clash : true ≡ false = sym leaves ∙ quiet_stays step.parts step.quiet in cc));
    answered = tt;
  };
}

-- quiet steps lead on
pub quiet_leads : (request : Request) (before state : State) (moments : List Moment) (turns : List Turn) → AreQuiet state turns →
    Lead request before state moments turns (after_turns state turns) (moments ++ moments_of state turns)
quiet_leads request before state moments [] quiet =
    subst (λ ms. Lead request before state moments [] state ms) (sym (append-nil moments)) (record { run = λ events rest. rest; ends = λ events. refl })
quiet_leads request before state moments (turn ∷ turns) (first, rest) =
    let one = one_leads request before state moments turn (quiet_step request before state moments turn first) in
    let other = quiet_leads request before (after_turn state turn) (moments ++ moment state turn ∷ []) turns rest in
    subst (λ ms. Lead request before state moments (turn ∷ turns) (after_turns state (turn ∷ turns)) ms) (append_assoc moments (moment state turn ∷ []) (moments_of (after_turn state turn) turns))
    (lead_on request before state moments turn turns (after_turn state turn) (moments ++ moment state turn ∷ []) ((moments ++ moment state turn ∷ []) ++ moments_of (after_turn state turn) turns) (after_turns state (turn ∷ turns)) one other)

-- the parts of quiet steps
pub quiet_parts : (state : State) (turns : List Turn) → AreQuiet state turns → Each IsQuiet (moved_parts (moments_of state turns))
quiet_parts state [] quiet = tt
quiet_parts state (turn ∷ turns) (first, rest) =
    each-append IsQuiet turn.parts (moved_parts (moments_of (after_turn state turn) turns))
    (subst (λ (e : Turn). Each IsQuiet e.parts) (sym first.is) first.quiet) (quiet_parts (after_turn state turn) turns rest)

pub moved_parts-append : (one other : List Moment) → moved_parts (one ++ other) ≡ moved_parts one ++ moved_parts other
moved_parts-append one other = flat_map-append (λ (m : Moment). m.turn.parts) one other

-- what is due after quiet steps is what was
pub due_after-append : (due : Due) (one other : List Moment) → due_after due (one ++ other) ≡ due_after (due_after due one) other
due_after-append due [] other = refl
due_after-append due (m ∷ one) other = due_after-append (due_moved (due_seen due m.turn.seen) m.turn.parts m.turn.region) one other

pub quiet_due : (due : Due) (state : State) (turns : List Turn) → AreQuiet state turns → due_after due (moments_of state turns) ≡ due
quiet_due due state [] quiet = refl
quiet_due due state (turn ∷ turns) (first, rest) = quiet_due (due_moved (due_seen due turn.seen) turn.parts turn.region) (after_turn state turn) turns rest ∙ one
  where
    one : due_moved (due_seen due turn.seen) turn.parts turn.region ≡ due
    one = ap (λ (t : Turn). due_moved (due_seen due t.seen) t.parts t.region) first.is ∙ ap (λ (b : Bool). if b then Nothing_due else due) (quiet_stays first.parts first.quiet)

-- a turn that draws no number of the cache's clock
abbrev pub NoTick : Moment → Type 0
NoTick m = tick_of m.turn.seen ≡ []

pub quiet_ticks : (state : State) (turns : List Turn) → AreQuiet state turns → Each NoTick (moments_of state turns)
quiet_ticks state [] quiet = tt
quiet_ticks state (turn ∷ turns) (first, rest) = (ap (λ (t : Turn). tick_of t.seen) first.is, quiet_ticks (after_turn state turn) turns rest)

-- the cache has nothing to do for a call that makes and ends no large object
pub none_large : (parts : List Part) → Each (λ (part : Part). is_large part ≡ false) parts → filter is_large parts ≡ []
none_large [] all = refl
none_large (part ∷ parts) (first, rest) = ap (λ (b : Bool). cond b (part ∷ filter is_large parts) (filter is_large parts)) first ∙ none_large parts rest

pub asks_nothing : (moments : List Moment) → Each NoTick moments → AsksAll moments
asks_nothing [] none = tt
asks_nothing (m ∷ moments) (first, rest) = (
  OnTrue_from (is_cleanup (tick_of m.turn.seen)) _ (λ cleanup. absurd (let clash : false ≡ true = ap is_cleanup (sym first) ∙ cleanup in cc)),
  asks_nothing moments rest,
)

pub cleaned_from : (moments : List Moment) → Each (λ (part : Part). is_large part ≡ false) (moved_parts moments) → Each NoTick moments → IsCleaned moments
cleaned_from moments none ticks = record {
  drawn = let few : length (filter is_large (moved_parts moments)) ≡ 0 = ap length (none_large (moved_parts moments) none) in omega (arith, few);
  asked = asks_nothing moments ticks;
}

pub quiet_small : (parts : List Part) → Each IsQuiet parts → Each (λ (part : Part). is_large part ≡ false) parts
quiet_small parts quiet = each-map IsQuiet (λ (part : Part). is_large part ≡ false) (λ part q. q.small) parts quiet

-- quiet steps after quiet steps
pub quiet_append : (state : State) (one other : List Turn) → AreQuiet state one → AreQuiet (after_turns state one) other → AreQuiet state (one ++ other)
quiet_append state [] other quiet rest = rest
quiet_append state (turn ∷ one) other (first, quiet) rest = (first, quiet_append (after_turn state turn) one other quiet rest)

pub after_turns-append : (state : State) (one other : List Turn) → after_turns state (one ++ other) ≡ after_turns (after_turns state one) other
after_turns-append state [] other = refl
after_turns-append state (turn ∷ one) other = after_turns-append (after_turn state turn) one other

-- the turns of one list, and then those of another
pub moments_of-append : (state : State) (one other : List Turn) → moments_of state (one ++ other) ≡ moments_of state one ++ moments_of (after_turns state one) other
moments_of-append state [] other = refl
moments_of-append state (turn ∷ one) other = ap (λ ms. moment state turn ∷ ms) (moments_of-append (after_turn state turn) one other)

-- Turns with which a call on this request begins. They move no object, draw no number of the cache's clock, and leave nothing due.
pub record Opens (request : Request) (state : State) (turns : List Turn) : Type 0 where
  pub leads : Lead request state state [] turns (after_turns state turns) (moments_of state turns)
  pub quiet : Each IsQuiet (moved_parts (moments_of state turns))
  pub due : due_after Nothing_due (moments_of state turns) ≡ Nothing_due
  pub ticks : Each NoTick (moments_of state turns)

-- quiet ones do
pub quiet_opens : (request : Request) (state : State) (turns : List Turn) → AreQuiet state turns → Opens request state turns
quiet_opens request state turns quiet = record {
  leads = quiet_leads request state state [] turns quiet;
  quiet = quiet_parts state turns quiet;
  due = quiet_due Nothing_due state turns quiet;
  ticks = quiet_ticks state turns quiet;
}

-- and one more
pub opens_on : (request : Request) (state : State) (turns : List Turn) (turn : Turn) → Opens request state turns →
    IsStep request state (after_turns state turns) (moments_of state turns) turn → Each IsQuiet turn.parts →
    due_moved (due_seen Nothing_due turn.seen) turn.parts turn.region ≡ Nothing_due → tick_of turn.seen ≡ [] → Opens request state (turns ++ turn ∷ [])
opens_on request state turns turn opens step quiet due tick =
    with_lead
    (subst (λ next. Lead request state state [] (turns ++ turn ∷ []) next (moments_of state (turns ++ turn ∷ []))) (sym (after_turns-append state turns (turn ∷ [])))
    (subst (λ ms. Lead request state state [] (turns ++ turn ∷ []) (after_turn (after_turns state turns) turn) ms) (sym (moments_of-append state turns (turn ∷ []))) lead))
  where
    last : Moment
    last = moment (after_turns state turns) turn

    one : Lead request state (after_turns state turns) (moments_of state turns) (turn ∷ []) (after_turn (after_turns state turns) turn) (moments_of state turns ++ moment (after_turns state turns) turn ∷ [])
    one = one_leads request state (after_turns state turns) (moments_of state turns) turn step

    events_are : (events : List Event) → map Makes (turns ++ turn ∷ []) ++ events ≡ map Makes turns ++ (Makes turn ∷ events)
    events_are events = ap (λ es. es ++ events) (map-append Makes turns (turn ∷ [])) ∙ append_assoc (map Makes turns) (Makes turn ∷ []) events

    lead : Lead request state state [] (turns ++ turn ∷ []) (after_turn (after_turns state turns) turn) (moments_of state turns ++ moment (after_turns state turns) turn ∷ [])
    lead = record {
      run = λ events rest. subst (λ es. IsRunFrom fixed_terms (calling state (call_with state request [])) es) (sym (events_are events)) (opens.leads.run (Makes turn ∷ events) (one.run events rest));
      ends = λ events. ap (λ es. after_events (calling state (call_with state request [])) es) (events_are events) ∙ opens.leads.ends (Makes turn ∷ events) ∙ one.ends events;
    }

    with_lead : Lead request state state [] (turns ++ turn ∷ []) (after_turns state (turns ++ turn ∷ [])) (moments_of state (turns ++ turn ∷ [])) → Opens request state (turns ++ turn ∷ [])
    with_lead leads = record {
      leads = leads;
      quiet = subst (λ ms. Each IsQuiet (moved_parts ms)) (sym (moments_of-append state turns (turn ∷ []))) (subst (Each IsQuiet) (sym (moved_parts-append (moments_of state turns) (moment (after_turns state turns) turn ∷ [])))
          (each-append IsQuiet (moved_parts (moments_of state turns)) (turn.parts ++ []) opens.quiet (each-append IsQuiet turn.parts [] quiet tt)));
      due = ap (λ ms. due_after Nothing_due ms) (moments_of-append state turns (turn ∷ [])) ∙ due_after-append Nothing_due (moments_of state turns) (moment (after_turns state turns) turn ∷ [])
          ∙ ap (λ d. due_moved (due_seen d turn.seen) turn.parts turn.region) opens.due ∙ due;
      ticks = subst (Each NoTick) (sym (moments_of-append state turns (turn ∷ []))) (each-append NoTick (moments_of state turns) (moment (after_turns state turns) turn ∷ []) opens.ticks (tick, tt));
    }

-- and a quiet one more
pub opens_quiet : (request : Request) (state : State) (turns : List Turn) (turn : Turn) → Opens request state turns → IsQuietStep (after_turns state turns) turn → Opens request state (turns ++ turn ∷ [])
opens_quiet request state turns turn opens step =
    opens_on request state turns turn opens (quiet_step request state (after_turns state turns) (moments_of state turns) turn step) (subst (λ (t : Turn). Each IsQuiet t.parts) (sym step.is) step.quiet)
    (ap (λ (t : Turn). due_moved (due_seen Nothing_due t.seen) t.parts t.region) step.is ∙ ap (λ (b : Bool). if b then Nothing_due else Nothing_due) (quiet_stays step.parts step.quiet))
    (ap (λ (t : Turn). tick_of t.seen) step.is)

-- a fact of the last step
pub at_last : (fact : State → Type 0) (moments : List Moment) (last : Moment) → fact last.state → AtStep fact (moments ++ last ∷ [])
at_last fact [] last holds = inl holds
at_last fact (m ∷ moments) last holds = inr (at_last fact moments last holds)

-- a call with these steps is a run
pub record CallRuns (state : State) (request : Request) (steps : List Turn) (next : State) : Type 0 where
  pub run : (events : List Event) → IsRunFrom fixed_terms (at_rest next) events → IsRunFrom fixed_terms (at_rest state) (Begins 0 request ∷ (map Makes steps ++ events))
  pub ends : (events : List Event) → after_events (at_rest state) (Begins 0 request ∷ (map Makes steps ++ events)) ≡ after_events (at_rest next) events

-- the call may begin
pub may_begin : (state : State) → MayBegin fixed_terms (at_rest state) 0
may_begin state = record { seated = lit< tt; free = refl; serving = refl }

-- steps that lead on, and a last one that answers
pub call_runs : (state : State) (request : Request) (turns : List Turn) (next : State) (moments : List Moment) (parts : List Part) (seen : Sight) (answer : Answer) → clock_after 0 seen ≡ 0 →
    Lead request state state [] turns next moments → MayStep fixed_terms (calling next (call_with state request moments)) (step_of parts [] None seen (Some answer)) →
    CallRuns state request (turns ++ step_of parts [] None seen (Some answer) ∷ []) (after_turn next (step_of parts [] None seen (Some answer)))
call_runs state request turns next moments parts seen answer clock leads may = record {
  run = λ events rest. (
    may_begin state,
    subst (λ es. IsRunFrom fixed_terms (calling state (call_with state request [])) es) (sym (events_are events)) (leads.run (Makes (step_of parts [] None seen (Some answer)) ∷ events) (
      may,
      subst (λ c. IsRunFrom fixed_terms (record (at_rest (after_turn next (step_of parts [] None seen (Some answer)))) { clock = c }) events) (sym clock) rest,
    )),
  );
  ends = λ events. ap (λ es. after_events (calling state (call_with state request [])) es) (events_are events) ∙ leads.ends (Makes (step_of parts [] None seen (Some answer)) ∷ events)
      ∙ ap (λ c. after_events (record (at_rest (after_turn next (step_of parts [] None seen (Some answer)))) { clock = c }) events) clock;
}
  where
    events_are : (events : List Event) → map Makes (turns ++ step_of parts [] None seen (Some answer) ∷ []) ++ events ≡ map Makes turns ++ (Makes (step_of parts [] None seen (Some answer)) ∷ events)
    events_are events = ap (λ es. es ++ events) (map-append Makes turns (step_of parts [] None seen (Some answer) ∷ [])) ∙ append_assoc (map Makes turns) (Makes (step_of parts [] None seen (Some answer)) ∷ []) events
