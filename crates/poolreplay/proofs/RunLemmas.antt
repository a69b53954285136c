-- What a trace that a replay serves reports, and what its calls ask.
use Rattle.std.proofs.Common.{◌≡◌, ℕ, ◌+◌, ◌≤◌, inl, inr, true, false, List, [], ◌∷◌, ◌++◌, length, map, Some, None, refl, sym, ◌∙◌, ap, subst, lit≤, arith}
use Rattle.std.specs.Prelude.{All, Ok}
use Rattle.std.specs.declared.option.Option.{Option}
use Rattle.pool_types.specs.Policies.{Checks}
use Rattle.pool_types.specs.declared.values.Answer.{Answer}
use Rattle.pool_types.specs.declared.values.Request.{Request}
use Rattle.pool_types.specs.declared.values.Request.TheVariants.{Malloc}
use Rattle.pool_types.specs.declared.texts.ThreadName.{ThreadName}
use Rattle.arrayvec.specs.ArrayVec.{ArrayVec}
use Rattle.trace_reader.specs.declared.acts.PoolOption.{PoolOption}
use Rattle.trace_reader.specs.declared.acts.TraceCall.{TraceCall}
use Rattle.trace_reader.specs.declared.acts.TraceCall.TheVariants as call
use Rattle.trace_reader.specs.declared.acts.Act.{Act}
use Rattle.trace_reader.specs.declared.acts.Act.TheVariants as act
use Rattle.trace_reader.specs.declared.acts.TraceLine.{TraceLine}
use Rattle.trace_reader.specs.Served.{AreServed, AreServedCalls, IsServedCall, act_of, plain_pool}
use Rattle.report_text.specs.declared.entry.ReportEntry.{ReportEntry}
use Rattle.report_text.specs.declared.entry.ReportEntry.TheVariants.{Made, Answered}
use Rattle.plain_lists.specs.Lists.{Lists, no_lists}
use Rattle.plain_lists.specs.Held.{totals_at, leaks_at}
use Rattle.plain_lists.specs.Whole.{whole, IsServed, lists_after, answers_to}
use Rattle.machine.specs.States.{fixed_terms}
use Rattle.trace_calls.specs.Names.{Names, no_names, request_of, names_after, call_at, asks, requests_from}
use Rattle.trace_calls.specs.Pools.{Judged, limits_of}
use Rattle.trace_calls.specs.Entries.{listed, reports, line_entries, has_pool, end_entries}
use Rattle.poolreplay.specs.Running.{Going, no_line as nothing_run, judged, after_line, after_lines, entry_at, run_entries, held_entries, AsksServed, IsServedLine}
use Rattle.std.proofs.lemmas.List.Elements.{All-cons, All-nil, All-head, All-tail}
use Rattle.poolreplay.proofs.NameLemmas.{served_same}

-- what the calls of the lines ask of a pool

-- what this call asks, if there is one, and then what the later ones ask
abbrev pub asked_then : (Lists → Names → List Request) → Lists → Names → Option TraceCall → List Request
asked_then later lists names None = later lists names
asked_then later lists names (Some call) =
    request_of names call ∷ later (whole lists (request_of names call)).lists (names_after names call (whole lists (request_of names call)).answer)

-- where the pool has these lists, and the names stand for these
abbrev pub requests_of : Lists → Names → List TraceLine → List Request
requests_of lists names [] = []
requests_of lists names (line ∷ lines) = asked_then (λ next after. requests_of next after lines) lists names (call_at line.act)

-- the lines ask this, with the answers that it gets
asks_same : (later : Names → List Answer → List Request) (mine : Lists → Names → List Request) → ((lists : Lists) (names : Names) → later names (answers_to lists (mine lists names)) ≡ mine lists names) →
    (lists : Lists) (names : Names) (call : Option TraceCall) → asks later names call (answers_to lists (asked_then mine lists names call)) ≡ asked_then mine lists names call
asks_same later mine same lists names None = same lists names
asks_same later mine same lists names (Some call) =
    ap (λ (rs : List Request). request_of names call ∷ rs) (same (whole lists (request_of names call)).lists (names_after names call (whole lists (request_of names call)).answer))

pub requests_same : (lists : Lists) (names : Names) (lines : List TraceLine) → requests_from names lines (answers_to lists (requests_of lists names lines)) ≡ requests_of lists names lines
requests_same lists names [] = refl
requests_same lists names (line ∷ lines) =
    asks_same (λ later given. requests_from later lines given) (λ next after. requests_of next after lines) (λ next after. requests_same next after lines) lists names (call_at line.act)

-- it is served, and no more than the lines
then_served : (later : Lists → Names → List Request) (lists : Lists) (names : Names) (call : Option TraceCall) → AsksServed call → ((next : Lists) (after : Names) → All IsServed (later next after)) →
    All IsServed (asked_then later lists names call)
then_served later lists names None served rest = rest lists names
then_served later lists names (Some call) served rest =
    All-cons IsServed (request_of names call) (later _ _) (served_same names call served) (rest (whole lists (request_of names call)).lists (names_after names call (whole lists (request_of names call)).answer))

pub requests_served : (lists : Lists) (names : Names) (lines : List TraceLine) → All IsServedLine lines → All IsServed (requests_of lists names lines)
requests_served lists names [] served = All-nil IsServed
requests_served lists names (line ∷ lines) served =
    then_served (λ next after. requests_of next after lines) lists names (call_at line.act) (All-head IsServedLine line lines served)
    (λ next after. requests_served next after lines (All-tail IsServedLine line lines served))

then_few : (later : Lists → Names → List Request) (lists : Lists) (names : Names) (call : Option TraceCall) (most : ℕ) → ((next : Lists) (after : Names) → length (later next after) ≤ most) →
    length (asked_then later lists names call) ≤ most + 1
then_few later lists names None most few = omega (arith, few lists names)
then_few later lists names (Some call) most few =
    omega (arith, few (whole lists (request_of names call)).lists (names_after names call (whole lists (request_of names call)).answer))

pub requests_few : (lists : Lists) (names : Names) (lines : List TraceLine) → length (requests_of lists names lines) ≤ length lines
requests_few lists names [] = lit≤ tt
requests_few lists names (line ∷ lines) =
    omega (arith, then_few (λ next after. requests_of next after lines) lists names (call_at line.act) (length lines) (λ next after. requests_few next after lines))

-- mallocs that are served are of small sizes
pub mallocs_small : (sizes : List ℕ) → All IsServed (map Malloc sizes) → All (λ size. size ≤ 8128) sizes
mallocs_small [] served = All-nil (λ size. size ≤ 8128)
mallocs_small (size ∷ sizes) served =
    All-cons (λ s. s ≤ 8128) size sizes (All-head IsServed (Malloc size) (map Malloc sizes) served) (mallocs_small sizes (All-tail IsServed (Malloc size) (map Malloc sizes) served))

-- lines that are calls, on a pool that was made

rest_served : (deed : Act) (deeds : List Act) → AreServedCalls (deed ∷ deeds) → AreServedCalls deeds
rest_served (act.Call thread pool call) deeds are = are.3
rest_served other deeds are = absurd are

served_asks : (call : TraceCall) → IsServedCall call → IsServed (request_of no_names call)
served_asks (call.Malloc name size) served = served.1
served_asks (call.Free what) served = tt
served_asks (call.Msize what) served = tt
served_asks (call.Identify what) served = tt
served_asks other served = absurd (let clash : false ≡ true = served.0 in cc)

first_served : (deed : Act) (deeds : List Act) → AreServedCalls (deed ∷ deeds) → AsksServed (call_at deed)
first_served (act.Call thread pool call) deeds are = served_asks call are.2
first_served other deeds are = absurd are

calls_served : (lines : List TraceLine) → AreServedCalls (map act_of lines) → All IsServedLine lines
calls_served [] are = All-nil IsServedLine
calls_served (line ∷ lines) are =
    All-cons IsServedLine line lines (first_served line.act (map act_of lines) are) (calls_served lines (rest_served line.act (map act_of lines) are))

-- the pool was made
abbrev pub made_at : Lists → Names → Going
made_at lists names = record { lists = Some lists; names = names }

one_entry : (threads : ℕ) (made : Judged) (lists : Lists) (names : Names) (line : ℕ) (deed : Act) (deeds : List Act) → AreServedCalls (deed ∷ deeds) → (later : List Answer → List ReportEntry) (rest : Going → List ReportEntry) →
    (mine : Lists → Names → List Request) → ((next : Lists) (after : Names) → rest (made_at next after) ≡ later (answers_to next (mine next after))) →
    listed (entry_at threads (made_at lists names) line deed) (rest (after_line threads (made_at lists names) deed)) ≡ reports later made line deed (answers_to lists (asked_then mine lists names (call_at deed)))
one_entry threads made lists names line (act.Call thread pool call) deeds are later rest mine same =
    ap (λ (entries : List ReportEntry). Answered line (whole lists (request_of names call)).answer ∷ entries)
    (same (whole lists (request_of names call)).lists (names_after names call (whole lists (request_of names call)).answer))
one_entry threads made lists names line other deeds are later rest mine same = absurd are

calls_entries : (threads : ℕ) (made : Judged) (lists : Lists) (names : Names) (lines : List TraceLine) → AreServedCalls (map act_of lines) →
    run_entries threads (made_at lists names) lines ≡ line_entries made lines (answers_to lists (requests_of lists names lines))
calls_entries threads made lists names [] are = refl
calls_entries threads made lists names (line ∷ lines) are =
    one_entry threads made lists names line.line line.act (map act_of lines) are (λ given. line_entries made lines given) (λ going. run_entries threads going lines) (λ next after. requests_of next after lines)
    (λ next after. calls_entries threads made next after lines (rest_served line.act (map act_of lines) are))

one_pool : (threads : ℕ) (lists : Lists) (names : Names) (deed : Act) (deeds : List Act) → AreServedCalls (deed ∷ deeds) → (rest : Going → Option Lists) (mine : Lists → Names → List Request) →
    ((next : Lists) (after : Names) → rest (made_at next after) ≡ Some (lists_after next (mine next after))) →
    rest (after_line threads (made_at lists names) deed) ≡ Some (lists_after lists (asked_then mine lists names (call_at deed)))
one_pool threads lists names (act.Call thread pool call) deeds are rest mine same =
    same (whole lists (request_of names call)).lists (names_after names call (whole lists (request_of names call)).answer)
one_pool threads lists names other deeds are rest mine same = absurd are

calls_pool : (threads : ℕ) (lists : Lists) (names : Names) (lines : List TraceLine) → AreServedCalls (map act_of lines) →
    (after_lines threads (made_at lists names) lines).lists ≡ Some (lists_after lists (requests_of lists names lines))
calls_pool threads lists names [] are = refl
calls_pool threads lists names (line ∷ lines) are =
    one_pool threads lists names line.act (map act_of lines) are (λ going. (after_lines threads going lines).lists) (λ next after. requests_of next after lines)
    (λ next after. calls_pool threads next after lines (rest_served line.act (map act_of lines) are))

-- what a trace is whose acts are served

-- what its calls ask of its pool
abbrev pub all_asked : List TraceLine → List Request
all_asked lines = requests_of no_lists no_names lines

-- the pool's making is judged as its policy and limits are, its calls ask what is served, and its run reports what its lines and its
-- pool report
pub record IsReported (threads : ℕ) (lines : List TraceLine) : Type 0 where
  pub checked : Checks fixed_terms.policy (limits_of threads) (judged threads)
  pub served : All IsServedLine lines
  pub reported : run_entries threads nothing_run lines ++ held_entries (after_lines threads nothing_run lines).lists
      ≡ line_entries (judged threads) lines (answers_to no_lists (all_asked lines))
      ++ end_entries (has_pool (judged threads) lines) (totals_at (lists_after no_lists (all_asked lines))) (leaks_at (lists_after no_lists (all_asked lines)))

-- a line of this number that does this
abbrev pub line_at : ℕ → Act → TraceLine
line_at number deed = record { line = number; act = deed }

none_checked : Checks fixed_terms.policy (limits_of 0) (judged 0)
none_checked = (refl, refl, tt, refl)

one_checked : Checks fixed_terms.policy (limits_of 1) (judged 1)
one_checked = record { valid = refl; supported = refl; limits_in = ((refl, refl, refl), refl) }

no_line : IsReported 0 []
no_line = record { checked = none_checked; served = All-nil IsServedLine; reported = refl }

thread_line : (n : ℕ) → IsReported 1 (line_at n act.Threads ∷ [])
thread_line n = record { checked = one_checked; served = All-cons IsServedLine (line_at n act.Threads) [] tt (All-nil IsServedLine); reported = refl }

pool_line : (n : ℕ) → IsReported 0 (line_at n plain_pool ∷ [])
pool_line n = record { checked = none_checked; served = All-cons IsServedLine (line_at n plain_pool) [] tt (All-nil IsServedLine); reported = refl }

call_lines : (n m : ℕ) (lines : List TraceLine) → AreServedCalls (map act_of lines) → IsReported 1 (line_at n act.Threads ∷ line_at m plain_pool ∷ lines)
call_lines n m lines are = record {
  checked = one_checked;
  served = All-cons IsServedLine (line_at n act.Threads) (line_at m plain_pool ∷ lines) tt (All-cons IsServedLine (line_at m plain_pool) lines tt (calls_served lines are));
  reported =
      ap (λ (entries : List ReportEntry). Made m ∷ (entries ++ held_entries (after_lines 1 (made_at no_lists no_names) lines).lists)) (calls_entries 1 (Ok tt) no_lists no_names lines are)
      ∙ ap (λ (pool : Option Lists). Made m ∷ (line_entries (Ok tt) lines (answers_to no_lists (all_asked lines)) ++ held_entries pool)) (calls_pool 1 no_lists no_names lines are);
}

-- the first line and the others, by what they do
record Begins (lines : List TraceLine) (deed : Act) (deeds : List Act) : Type 0 where
  number : ℕ
  rest : List TraceLine
  is : lines ≡ line_at number deed ∷ rest
  rest_is : map act_of rest ≡ deeds

begins : (lines : List TraceLine) (deed : Act) (deeds : List Act) → map act_of lines ≡ deed ∷ deeds → Begins lines deed deeds
begins [] deed deeds same = absurd (let clash : ◌≡◌ {A = List Act} [] (deed ∷ deeds) = same in cc)
begins (line ∷ lines) deed deeds same =
    let both : line.act ∷ map act_of lines ≡ deed ∷ deeds = same in
    let first : line.act ≡ deed = cc in
    record { number = line.line; rest = lines; is = ap (λ (d : Act). line_at line.line d ∷ lines) first; rest_is = cc }

none_left : (lines : List TraceLine) → map act_of lines ≡ [] → lines ≡ []
none_left [] same = refl
none_left (line ∷ lines) same = absurd (let clash : ◌≡◌ {A = List Act} (line.act ∷ map act_of lines) [] = same in cc)

pub served_reported : (names : List ThreadName) (pools : List (ArrayVec PoolOption)) (lines : List TraceLine) → AreServed names pools (map act_of lines) → IsReported (length names) lines
served_reported names pools lines served = elim served [
  | inl none ↦ subst (λ (ns : List ThreadName). IsReported (length ns) lines) (sym none.0) (subst (λ (ls : List TraceLine). IsReported 0 ls) (sym (none_left lines none.2)) no_line)
  | inr rest ↦ elim rest [
    | inl thread ↦
        let first = begins lines act.Threads [] thread.3 in
        subst (λ (ns : List ThreadName). IsReported (length ns) lines) (sym thread.1)
        (subst (λ (ls : List TraceLine). IsReported 1 ls) (sym (first.is ∙ ap (λ (ls : List TraceLine). line_at first.number act.Threads ∷ ls) (none_left first.rest first.rest_is))) (thread_line first.number))
    | inr rest ↦ elim rest [
      | inl pool ↦
          let first = begins lines plain_pool [] pool.2 in
          subst (λ (ns : List ThreadName). IsReported (length ns) lines) (sym pool.0)
          (subst (λ (ls : List TraceLine). IsReported 0 ls) (sym (first.is ∙ ap (λ (ls : List TraceLine). line_at first.number plain_pool ∷ ls) (none_left first.rest first.rest_is))) (pool_line first.number))
      | inr calls ↦
          let first = begins lines act.Threads (plain_pool ∷ calls.1) calls.4 in
          let second = begins first.rest plain_pool calls.1 first.rest_is in
          subst (λ (ns : List ThreadName). IsReported (length ns) lines) (sym calls.2)
          (subst (λ (ls : List TraceLine). IsReported 1 ls) (sym (first.is ∙ ap (λ (ls : List TraceLine). line_at first.number act.Threads ∷ ls) second.is))
          (call_lines first.number second.number second.rest (subst AreServedCalls (sym second.rest_is) calls.5)))
    ]
  ]
]
