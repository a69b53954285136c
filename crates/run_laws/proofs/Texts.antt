-- What the text of a trace comes to is one: traces that it spells agree in all that a run looks at.
use Rattle.std.proofs.Common.{◌≡◌, ℕ, Bool, false, ap, ◌∙◌, sym, refl, List, [], ◌∷◌, ◌++◌, subst}
use Rattle.std.specs.Prelude.{Option, Some, None, Result, Ok, Err, length, slice_index_or}
use Rattle.std.proofs.lemmas.List.{length-map}
use Rattle.arrayvec.specs.ArrayVec.{ArrayVec}
use Rattle.pool_types.specs.Policies.{Checks}
use Rattle.pool_types.specs.Texts.{name_bytes, names_of}
use Rattle.report_text.specs.Reports.{ReportView}
use Rattle.trace_calls.specs.Pools.{Judged, pool_policy, pool_limits}
use Rattle.trace_reader.specs.declared.acts.Forms.{Forms}
use Rattle.trace_reader.specs.declared.acts.PoolOption.{PoolOption}
use Rattle.trace_reader.specs.declared.acts.TraceLine.{TraceLine}
use Rattle.trace_reader.specs.declared.trace.Trace.{Trace}
use Rattle.trace_reader.specs.Text.{AllRead, ReadsTrace}
use Rattle.trace_reader.proofs.CallerLemmas.{traces_are_clear}
use Rattle.line_runs.specs.Pools.{Pool, first_pool}
use Rattle.line_runs.specs.declared.lines.Came.{Came}
use Rattle.trace_runs.specs.Lines.{DeedRuns, deed_of}
use Rattle.trace_runs.specs.Making.{Makes, options_of, slot_of}
use Rattle.trace_runs.specs.Runs.{Onward, RunsAll, RunsOn, Runs, Sums, empty_report}
use Rattle.trace_runs.specs.Scripts.{script_of}
use Rattle.trace_runs.specs.States.{State}
use Rattle.trace_runs.specs.declared.ends.Summary.{Summary}
use Rattle.trace_runs.specs.declared.lines.Deed.{Deed}
use Rattle.trace_runs.specs.declared.runs.RunError.{RunError}
use Rattle.run_laws.specs.Laws.{TextsRunToOne, TextsSumToOne}
use Rattle.run_laws.proofs.Traces.{runs_are_one, sums_are_one}

-- all that a run looks at is the same in both traces
pub record AreSpelledAlike (one other : Trace) : Type 0 where
  pub lines : one.lines.items ≡ other.lines.items
  pub names : names_of one.names.items ≡ names_of other.names.items
  pub pools : one.pools.items ≡ other.pools.items

same_lines : {lines lines' : List TraceLine} {names names' : List (List ℕ)}
    {pools pools' : List (ArrayVec PoolOption)} → AllRead lines names pools ≡ AllRead lines' names' pools' →
    lines ≡ lines'
same_lines is = cc

same_names : {lines lines' : List TraceLine} {names names' : List (List ℕ)}
    {pools pools' : List (ArrayVec PoolOption)} → AllRead lines names pools ≡ AllRead lines' names' pools' →
    names ≡ names'
same_names is = cc

same_pools : {lines lines' : List TraceLine} {names names' : List (List ℕ)}
    {pools pools' : List (ArrayVec PoolOption)} → AllRead lines names pools ≡ AllRead lines' names' pools' →
    pools ≡ pools'
same_pools is = cc

-- so it is in all traces that a text spells
pub spelled_alike : (forms : Forms) (bytes : List ℕ) (one other : Trace) → ReadsTrace forms bytes (Ok one) →
    ReadsTrace forms bytes (Ok other) → AreSpelledAlike one other
spelled_alike forms bytes one other spelled spelled' =
    let same : AllRead one.lines.items (names_of one.names.items) one.pools.items ≡
    AllRead other.lines.items (names_of other.names.items) other.pools.items =
    traces_are_clear forms bytes _ _ spelled spelled' in
    record { lines = same_lines same; names = same_names same; pools = same_pools same }

pub threads_alike : (one other : Trace) → AreSpelledAlike one other → length one.names.items ≡ length other.names.items
threads_alike one other same =
    sym (length-map one.names.items name_bytes) ∙ ap (λ (names : List (List ℕ)). length names) same.names ∙
    length-map other.names.items name_bytes

options_alike : (one other : Trace) (pool : ℕ) → AreSpelledAlike one other → options_of one pool ≡ options_of other pool
options_alike one other pool same =
    ap (λ (pools : List (ArrayVec PoolOption)). (slice_index_or pools pool (record { items = [] })).items) same.pools

-- a pool that is made
slot_alike : (one other : Trace) (pool : ℕ) (judged : Judged) → AreSpelledAlike one other →
    slot_of one pool judged ≡ slot_of other pool judged
slot_alike one other pool (Ok done) same =
    ap (λ (options : List PoolOption). Some (first_pool (pool_policy options)
    (pool_limits pool (length one.names.items) options) (script_of pool one.lines.items)))
    (options_alike one other pool same)
    ∙ ap (λ (threads : ℕ). Some (first_pool (pool_policy (options_of other pool))
    (pool_limits pool threads (options_of other pool)) (script_of pool one.lines.items)))
    (threads_alike one other same)
    ∙ ap (λ (lines : List TraceLine). Some (first_pool (pool_policy (options_of other pool))
    (pool_limits pool (length other.names.items) (options_of other pool)) (script_of pool lines)))
    same.lines
slot_alike one other pool (Err refusal) same = refl

-- how its making is judged
abbrev Judges : ℕ → ℕ → List PoolOption → Judged → Type 0
Judges pool threads options judged = Checks (pool_policy options) (pool_limits pool threads options) judged

judges_alike : (one other : Trace) (pool : ℕ) (judged : Judged) → AreSpelledAlike one other →
    Judges pool (length one.names.items) (options_of one pool) judged →
    Judges pool (length other.names.items) (options_of other pool) judged
judges_alike one other pool judged same judges =
    subst (λ (threads : ℕ). Judges pool threads (options_of other pool) judged) (threads_alike one other same)
    (subst (λ (options : List PoolOption). Judges pool (length one.names.items) options judged)
    (options_alike one other pool same) judges)

makes_alike : (one other : Trace) (line pool : ℕ) (old new : State) → AreSpelledAlike one other →
    Makes one line pool old new → Makes other line pool old new
makes_alike one other line pool old new same h = record {
  judged = h.judged;
  checks = judges_alike one other pool h.judged same h.checks;
  pools = h.pools ∙
      ap (λ (slot : Option Pool). old.pools ++ slot ∷ []) (slot_alike one other pool h.judged same);
  places = h.places;
  book = h.book;
}

-- a line
deed_alike : (one other : Trace) (line : ℕ) (deed : Deed) (old : State) (came : Came) (next : State) →
    AreSpelledAlike one other → DeedRuns one line deed old came next → DeedRuns other line deed old came next
deed_alike one other line Deed.Nothing old came next same h = h
deed_alike one other line (Deed.Make pool) old came next same h =
    (h.0, makes_alike one other line pool old next same h.1)
deed_alike one other line (Deed.On pool seat deed) old came next same h = h
deed_alike one other line (Deed.Destroy pool) old came next same h = h

onward_alike : (came : Came) (line : ℕ) (Later Later' : Type 0) (end : Result State ℕ) → (Later → Later') →
    Onward came line Later end → Onward came line Later' end
onward_alike Came.InTime line Later Later' end later h = later h
onward_alike Came.OutOfTurns line Later Later' end later h = h

-- lines one after another
runs_on_alike : (one other : Trace) (lines : List TraceLine) (old : State) (end : Result State ℕ) →
    AreSpelledAlike one other → RunsOn one lines old end → RunsOn other lines old end
runs_on_alike one other [] old end same h = h
runs_on_alike one other (line ∷ lines) old end same h = record {
  came = h.came;
  next = h.next;
  runs = deed_alike one other line.line (deed_of line.act) old h.came h.next same h.runs;
  onward = onward_alike h.came line.line (RunsOn one lines h.next end) (RunsOn other lines h.next end) end
      (λ later. runs_on_alike one other lines h.next end same later) h.onward;
}

-- all lines
runs_all_alike : (one other : Trace) (report : Option ReportView) (moves : Bool) (end : Result State ℕ) →
    AreSpelledAlike one other → RunsAll one report moves end → RunsAll other report moves end
runs_all_alike one other report moves end same h = record {
  first = h.first;
  is_first = h.is_first;
  runs = subst (λ (lines : List TraceLine). RunsOn other lines h.first end) same.lines
      (runs_on_alike one other one.lines.items h.first end same h.runs);
}

reports_alike : (one other : Trace) (moves : Bool) (end : Result State ℕ) → AreSpelledAlike one other →
    RunsAll one (Some (empty_report one)) moves end → RunsAll other (Some (empty_report other)) moves end
reports_alike one other moves end same h =
    subst (λ (names : List (List ℕ)). RunsAll other (Some (record { names = names; text = [] })) moves end) same.names
    (runs_all_alike one other (Some (empty_report one)) moves end same h)

-- what a run comes to
runs_alike : (moves : Bool) (one other : Trace) (result : Result ReportView RunError) → AreSpelledAlike one other →
    Runs moves one result → Runs moves other result
runs_alike moves one other (Ok report) same h =
    record { last = h.last; runs = reports_alike one other moves (Ok h.last) same h.runs; ended = h.ended }
runs_alike moves one other (Err (RunError.StepsOut line)) same h = reports_alike one other moves (Err line) same h
runs_alike moves one other (Err RunError.NoMemory) same h = tt

sums_alike : (one other : Trace) (result : Result Summary RunError) → AreSpelledAlike one other →
    Sums one result → Sums other result
sums_alike one other (Ok summary) same h =
    record { last = h.last; runs = runs_all_alike one other None false (Ok h.last) same h.runs; summed = h.summed }
sums_alike one other (Err (RunError.StepsOut line)) same h = runs_all_alike one other None false (Err line) same h
sums_alike one other (Err RunError.NoMemory) same h = tt

-- a text has one run
pub texts_run_to_one : TextsRunToOne
texts_run_to_one forms bytes moves trace trace' one other spelled spelled' h h' some some' =
    runs_are_one moves trace' one other
    (runs_alike moves trace trace' one (spelled_alike forms bytes trace trace' spelled spelled') h) h' some some'

-- and one summary
pub texts_sum_to_one : TextsSumToOne
texts_sum_to_one forms bytes trace trace' one other spelled spelled' h h' some some' =
    sums_are_one trace' one other
    (sums_alike trace trace' one (spelled_alike forms bytes trace trace' spelled spelled') h) h' some some'
