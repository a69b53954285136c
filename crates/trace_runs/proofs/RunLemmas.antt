-- A whole run, from its first state and its end.
use Rattle.std.proofs.Common.{◌≡◌, List, Bool, false, sym, subst}
use Rattle.std.specs.Prelude.{Option, Some, None, Result, Ok, Err, IfOk, IfErr}
use Rattle.report_text.specs.Reports.{ReportView}
use Rattle.trace_reader.specs.declared.acts.TraceLine.{TraceLine}
use Rattle.trace_reader.specs.declared.trace.Trace.{Trace}
use Rattle.trace_runs.specs.Ending.{reported, summary_of}
use Rattle.trace_runs.specs.Runs.{RunsOn, RunsAll, LinesCome, Begins, Runs, Sums, empty_report}
use Rattle.trace_runs.specs.States.{State, IsFirst}
use Rattle.trace_runs.specs.declared.ends.Summary.{Summary}
use Rattle.trace_runs.specs.declared.runs.RunError.{RunError}

pub begun_ok : (trace : Trace) (lines : List TraceLine) (report : Option ReportView) (moves : Bool) (first last : State) →
    lines ≡ trace.lines.items → IsFirst report moves first → LinesCome trace lines first (Ok tt) last →
    Begins trace report moves (Ok last)
begun_ok trace lines report moves first last all is come = record {
  first = first;
  is_first = is;
  runs = subst (λ (ls : List TraceLine). RunsOn trace ls first (Ok last)) all come;
}

pub begun_err : (trace : Trace) (lines : List TraceLine) (report : Option ReportView) (moves : Bool) (first last : State)
    (error : RunError) → lines ≡ trace.lines.items → IsFirst report moves first →
    LinesCome trace lines first (Err error) last → Begins trace report moves (Err error)
begun_err trace lines report moves first last (RunError.StepsOut line) all is come = record {
  first = first;
  is_first = is;
  runs = subst (λ (ls : List TraceLine). RunsOn trace ls first (Err line)) all come;
}
begun_err trace lines report moves first last RunError.NoMemory all is come = tt

-- with a report of no entry
pub reports_end : (trace : Trace) (moves : Bool) (start : ReportView) (last : State) (result : Result ReportView RunError) →
    start ≡ empty_report trace → Begins trace (Some start) moves (Ok last) → IfOk result (λ report. reported last ≡ Some report) →
    IfErr result (λ error. error ≡ RunError.NoMemory) → Runs moves trace result
reports_end trace moves start last (Ok report) empty runs ended memory = record {
  last = last;
  runs = subst (λ (r : ReportView). RunsAll trace (Some r) moves (Ok last)) empty runs;
  ended = ended;
}
reports_end trace moves start last (Err error) empty runs ended memory =
    subst (λ (e : RunError). Runs moves trace (Err e)) (sym memory) tt

pub reports_none : (trace : Trace) (moves : Bool) (start : ReportView) (error : RunError) → start ≡ empty_report trace →
    Begins trace (Some start) moves (Err error) → Runs moves trace (Err error)
reports_none trace moves start (RunError.StepsOut line) empty runs =
    subst (λ (r : ReportView). RunsAll trace (Some r) moves (Err line)) empty runs
reports_none trace moves start RunError.NoMemory empty runs = tt

-- without one
pub sums_end : (trace : Trace) (last : State) (result : Result Summary RunError) → Begins trace None false (Ok last) →
    IfOk result (λ summary. summary_of last ≡ summary) → IfErr result (λ error. error ≡ RunError.NoMemory) → Sums trace result
sums_end trace last (Ok summary) runs summed memory = record { last = last; runs = runs; summed = summed }
sums_end trace last (Err error) runs summed memory = subst (λ (e : RunError). Sums trace (Err e)) (sym memory) tt

pub sums_none : (trace : Trace) (error : RunError) → Begins trace None false (Err error) → Sums trace (Err error)
sums_none trace (RunError.StepsOut line) runs = runs
sums_none trace RunError.NoMemory runs = tt
