-- The laws of a trace's runs.
use Rattle.std.specs.Prelude.{◌≡◌, ◌≢◌, ℕ, Bool, List, Result, Ok, Err}
use Rattle.report_text.specs.Reports.{ReportView}
use Rattle.trace_reader.specs.declared.acts.Forms.{Forms}
use Rattle.trace_reader.specs.declared.trace.Trace.{Trace}
use Rattle.trace_reader.specs.Text.{ReadsTrace}
use Rattle.trace_runs.specs.Runs.{Runs, Sums}
use Rattle.trace_runs.specs.declared.ends.Summary.{Summary}
use Rattle.trace_runs.specs.declared.runs.RunError.{RunError}

-- what the run of a trace comes to is one, but for want of memory
abbrev pub RunsAreOne : Type 0
RunsAreOne = (moves : Bool) (trace : Trace) (one other : Result ReportView RunError) →
    Runs moves trace one → Runs moves trace other → one ≢ Err RunError.NoMemory → other ≢ Err RunError.NoMemory →
    one ≡ other

-- and so is its summary
abbrev pub SumsAreOne : Type 0
SumsAreOne = (trace : Trace) (one other : Result Summary RunError) → Sums trace one → Sums trace other →
    one ≢ Err RunError.NoMemory → other ≢ Err RunError.NoMemory → one ≡ other

-- so it is with the traces that one text spells: they have one run
abbrev pub TextsRunToOne : Type 0
TextsRunToOne = (forms : Forms) (bytes : List ℕ) (moves : Bool) (trace trace' : Trace)
    (one other : Result ReportView RunError) → ReadsTrace forms bytes (Ok trace) → ReadsTrace forms bytes (Ok trace') →
    Runs moves trace one → Runs moves trace' other → one ≢ Err RunError.NoMemory → other ≢ Err RunError.NoMemory →
    one ≡ other

-- and one summary
abbrev pub TextsSumToOne : Type 0
TextsSumToOne = (forms : Forms) (bytes : List ℕ) (trace trace' : Trace) (one other : Result Summary RunError) →
    ReadsTrace forms bytes (Ok trace) → ReadsTrace forms bytes (Ok trace') → Sums trace one → Sums trace' other →
    one ≢ Err RunError.NoMemory → other ≢ Err RunError.NoMemory → one ≡ other
