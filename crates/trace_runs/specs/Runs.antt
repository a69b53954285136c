-- The run of a whole trace.
use Rattle.std.specs.Prelude.{◌≡◌, ℕ, Bool, false, List, [], ◌∷◌, Option, Some, None, Result, Ok, Err}
use Rattle.pool_types.specs.Texts.{names_of}
use Rattle.report_text.specs.Reports.{ReportView}
use Rattle.trace_reader.specs.declared.acts.TraceLine.{TraceLine}
use Rattle.trace_reader.specs.declared.trace.Trace.{Trace}
use Rattle.line_runs.specs.declared.lines.Came.{Came}
use Rattle.trace_runs.specs.Ending.{reported, summary_of}
use Rattle.trace_runs.specs.Lines.{LineRuns}
use Rattle.trace_runs.specs.States.{State, IsFirst}
use Rattle.trace_runs.specs.declared.ends.Summary.{Summary}
use Rattle.trace_runs.specs.declared.runs.RunError.{RunError}

-- after a line come the later ones; a line that made the most turns without an end is the last, and this its number
abbrev pub Onward : Came → ℕ → Type 0 → Result State ℕ → Type 0
Onward Came.InTime line Later end = Later
Onward Came.OutOfTurns line Later end = end ≡ Err line

-- a line is run, and what comes after it
pub record OneLine (trace : Trace) (Later : State → Result State ℕ → Type 0) (line : TraceLine) (old : State)
    (end : Result State ℕ) : Type 0 where
  pub came : Came
  pub next : State
  pub runs : LineRuns trace line old came next
  pub onward : Onward came line.line (Later next end) end

-- The lines are run one after another, from this state on: to the state after the last, or to the number of the line
-- that made the most turns without an end.
abbrev pub RunsOn : Trace → List TraceLine → State → Result State ℕ → Type 0
RunsOn trace [] old end = end ≡ Ok old
RunsOn trace (line ∷ lines) old end = OneLine trace (RunsOn trace lines) line old end

-- all lines of the trace, with a report or without one
pub record RunsAll (trace : Trace) (report : Option ReportView) (moves : Bool) (end : Result State ℕ) : Type 0 where
  pub first : State
  pub is_first : IsFirst report moves first
  pub runs : RunsOn trace trace.lines.items first end

-- a report of no entry yet
abbrev pub empty_report : Trace → ReportView
empty_report trace = record { names = names_of trace.names.items; text = [] }

-- all lines are run, and the report is that of the lines and of what stands at the end
pub record RunsTo (moves : Bool) (trace : Trace) (report : ReportView) : Type 0 where
  pub last : State
  pub runs : RunsAll trace (Some (empty_report trace)) moves (Ok last)
  pub ended : reported last ≡ Some report

-- The run of a trace, and its report without the last line. It is out of turns exactly where a line made the most turns
-- without an end. Want of memory is free.
abbrev pub Runs : Bool → Trace → Result ReportView RunError → Type 0
Runs moves trace (Ok report) = RunsTo moves trace report
Runs moves trace (Err (RunError.StepsOut line)) = RunsAll trace (Some (empty_report trace)) moves (Err line)
Runs moves trace (Err RunError.NoMemory) = Unit {0}

-- all lines are run, and this is the summary
pub record SumsTo (trace : Trace) (summary : Summary) : Type 0 where
  pub last : State
  pub runs : RunsAll trace None false (Ok last)
  pub summed : summary_of last ≡ summary

-- the run of a trace, and its summary
abbrev pub Sums : Trace → Result Summary RunError → Type 0
Sums trace (Ok summary) = SumsTo trace summary
Sums trace (Err (RunError.StepsOut line)) = RunsAll trace None false (Err line)
Sums trace (Err RunError.NoMemory) = Unit {0}

-- what a line comes to, where the run ends at one that is out of turns
abbrev pub LineComes : Trace → TraceLine → State → Result Unit RunError → State → Type 0
LineComes trace line old (Ok done) new = LineRuns trace line old Came.InTime new
LineComes trace line old (Err (RunError.StepsOut number)) new =
    (number ≡ line.line) × LineRuns trace line old Came.OutOfTurns new
LineComes trace line old (Err RunError.NoMemory) new = Unit {0}

-- what the lines come to from this state on
abbrev pub LinesCome : Trace → List TraceLine → State → Result Unit RunError → State → Type 0
LinesCome trace lines old (Ok done) new = RunsOn trace lines old (Ok new)
LinesCome trace lines old (Err (RunError.StepsOut number)) new = RunsOn trace lines old (Err number)
LinesCome trace lines old (Err RunError.NoMemory) new = Unit {0}

-- and from the beginning
abbrev pub Begins : Trace → Option ReportView → Bool → Result State RunError → Type 0
Begins trace report moves (Ok last) = RunsAll trace report moves (Ok last)
Begins trace report moves (Err (RunError.StepsOut number)) = RunsAll trace report moves (Err number)
Begins trace report moves (Err RunError.NoMemory) = Unit {0}
