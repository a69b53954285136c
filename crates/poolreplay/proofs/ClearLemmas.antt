-- The bytes of a plain trace settle the text.
use Rattle.std.proofs.Common.{◌≡◌, ℕ, List, [], ◌∷◌, ◌++◌, length, Some, None, sym, ◌∙◌, ap, subst}
use Rattle.std.specs.declared.option.Option.{Option}
use Rattle.pool_types.specs.declared.values.Leak.{Leak}
use Rattle.pool_types.specs.declared.values.Request.{Request}
use Rattle.pool_types.specs.Policies.{Checks}
use Rattle.pool_types.specs.Texts.{names_of}
use Rattle.part_model.specs.Totals.{totals_of}
use Rattle.trace_reader.specs.declared.acts.Forms.TheVariants as forms
use Rattle.trace_reader.specs.declared.acts.TraceCall.{TraceCall}
use Rattle.trace_reader.specs.declared.acts.TraceLine.{TraceLine}
use Rattle.report_text.specs.Entries.{report_text}
use Rattle.trace_calls.specs.Entries.{line_entries, has_pool, end_entries}
use Rattle.trace_calls.specs.Names.{Names, no_names, request_of, names_after, call_at, asks, requests_from}
use Rattle.trace_calls.specs.Pools.{Judged, limits_of}
use Rattle.machine.specs.States.{fixed_terms}
use Rattle.machine.specs.Events.{Event}
use Rattle.machine.specs.Runs.{requests_in, answers_in, end_of}
use Rattle.plain_lists.specs.Held.{leaks_at}
use Rattle.plain_lists.specs.Lists.{Lists, no_lists}
use Rattle.plain_lists.specs.Whole.{whole, lists_after, answers_to}
use Rattle.plain_runs.specs.Journal.{events_to}
use Rattle.run_laws.proofs.CallerLemmas.{AreSpelledAlike, checks_once, spelled_alike, threads_alike}
use Rattle.poolreplay.specs.Replay.{IsReplayed}

-- a list behind its first member, and that member
abbrev pub behind : List Request → List Request
behind [] = []
behind (first ∷ rest) = rest

abbrev pub first_of_all : Request → List Request → Request
first_of_all other [] = other
first_of_all other (first ∷ rest) = first

-- these requests are asked by lines, where each call is answered as lists answer it
abbrev pub AreAsked : Lists → Names → List TraceLine → List Request → Type 0
AreAsked lists names lines requests = requests ≡ requests_from names lines (answers_to lists requests)

-- what a call and the lines behind it ask is one
one_asked : (lists : Lists) (names : Names) (lines : List TraceLine) (requests others : List Request) →
    AreAsked lists names lines requests → AreAsked lists names lines others → requests ≡ others
one_asked lists names [] requests others is is' = is ∙ sym is'
one_asked lists names (line ∷ lines) requests others is is' =
    by_call (λ next after rs os asked other. one_asked next after lines rs os asked other) (call_at line.act) requests
    others is is'
  where
    by_call : ((next : Lists) (after : Names) (rs os : List Request) → AreAsked next after lines rs →
        AreAsked next after lines os → rs ≡ os) → (call : Option TraceCall) (rs os : List Request) →
        rs ≡ asks (λ later given. requests_from later lines given) names call (answers_to lists rs) →
        os ≡ asks (λ later given. requests_from later lines given) names call (answers_to lists os) → rs ≡ os
    by_call later None rs os is is' = later lists names rs os is is'
    by_call later (Some call) [] os is is' = absurd (let clash = is in cc)
    by_call later (Some call) (r ∷ rs) [] is is' = absurd (let clash = is' in cc)
    by_call later (Some call) (r ∷ rs) (o ∷ os) is is' =
        let asked : Request = request_of names call in
        let first : r ≡ asked = ap (λ xs. first_of_all r xs) is in
        let other : o ≡ asked = ap (λ xs. first_of_all o xs) is' in
        let rest : AreAsked (whole lists asked).lists (names_after names call (whole lists asked).answer) lines rs =
        subst (λ x. rs ≡ requests_from (names_after names call (whole lists x).answer) lines
        (answers_to (whole lists x).lists rs)) first (ap behind is) in
        let rest' : AreAsked (whole lists asked).lists (names_after names call (whole lists asked).answer) lines os =
        subst (λ x. os ≡ requests_from (names_after names call (whole lists x).answer) lines
        (answers_to (whole lists x).lists os)) other (ap behind is') in
        ap (λ x. x ∷ rs) (first ∙ sym other)
        ∙ ap (λ xs. o ∷ xs)
        (later (whole lists asked).lists (names_after names call (whole lists asked).answer) rs os rest rest')

-- the report of a run
abbrev pub told : List (List ℕ) → Judged → List TraceLine → List Event → List Leak → List ℕ
told names judged lines events leaks =
    report_text names (line_entries judged lines (answers_in events)
    ++ end_entries (has_pool judged lines) (totals_of (end_of events).held) leaks)

-- the bytes settle the text
pub replays_are_clear : (bytes text text' : List ℕ) → IsReplayed bytes text → IsReplayed bytes text' → text ≡ text'
replays_are_clear bytes text text' one other =
    one.explained.report
    ∙ ap (λ ns. told ns one.explained.judged one.trace.lines.items one.events one.leaks) same.names
    ∙ ap (λ j. told (names_of other.trace.names.items) j one.trace.lines.items one.events one.leaks) judged
    ∙ ap (λ ls. told (names_of other.trace.names.items) other.explained.judged ls one.events one.leaks) same.lines
    ∙ ap (λ es. told (names_of other.trace.names.items) other.explained.judged other.trace.lines.items es one.leaks) events
    ∙ ap (λ ls. told (names_of other.trace.names.items) other.explained.judged other.trace.lines.items other.events ls)
    leaks
    ∙ sym other.explained.report
  where
    same : AreSpelledAlike one.trace other.trace
    same = spelled_alike forms.All bytes one.trace other.trace one.explained.spelled other.explained.spelled

    requests : requests_in one.events ≡ requests_in other.events
    requests = one_asked no_lists no_names one.trace.lines.items (requests_in one.events) (requests_in other.events)
        (one.explained.asked
        ∙ ap (λ answers. requests_from no_names one.trace.lines.items answers) one.settled.answered)
        (other.explained.asked ∙ ap (λ ls. requests_from no_names ls (answers_in other.events)) (sym same.lines)
        ∙ ap (λ answers. requests_from no_names one.trace.lines.items answers) other.settled.answered)

    events : one.events ≡ other.events
    events = one.settled.events_are ∙ ap (events_to no_lists) requests ∙ sym other.settled.events_are

    leaks : one.leaks ≡ other.leaks
    leaks = one.settled.leaks_are ∙ ap (λ rs. leaks_at (lists_after no_lists rs)) requests ∙ sym other.settled.leaks_are

    judged : one.explained.judged ≡ other.explained.judged
    judged = checks_once fixed_terms.policy (limits_of (length other.trace.names.items)) one.explained.judged
        other.explained.judged
        (subst (λ n. Checks fixed_terms.policy (limits_of n) one.explained.judged)
        (threads_alike one.trace other.trace same) one.explained.checked)
        other.explained.checked
