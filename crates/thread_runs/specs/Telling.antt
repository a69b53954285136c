-- What the lines of a trace report.
use Rattle.std.specs.Prelude.{◌≡◌, ℕ, ◌<◌, ◌≤◌, List, [], ◌∷◌, ◌++◌, length, take, Option, Some, None, slice_get}
use Rattle.std.specs.Global.{Vec}
use Rattle.report_text.specs.declared.entry.ReportEntry.{ReportEntry}
use Rattle.report_text.specs.declared.entry.ReportEntry.TheVariants as entry
use Rattle.report_text.specs.Reports.{ReportView}
use Rattle.thread_calls.specs.declared.calls.Said.{Said}
use Rattle.thread_calls.specs.Script.{count_own}
use Rattle.trace_calls.specs.Entries.{with_entry}
use Rattle.trace_calls.specs.Pools.{Judged, made_entry}
use Rattle.trace_reader.specs.declared.acts.Act.{Act}
use Rattle.trace_reader.specs.declared.acts.Act.TheVariants as act
use Rattle.trace_reader.specs.declared.acts.TraceLine.{TraceLine}
use Rattle.trace_reader.specs.declared.trace.Trace.{Trace}
use Rattle.thread_runs.specs.Gathering.{said_by}
use Rattle.thread_runs.specs.Traces.{IsJudged, threads_in}

-- what a call's line reports: its pool was not made, or its heap's answer
abbrev pub said_entry : ℕ → Said → ReportEntry
said_entry line Said.Gone = entry.Gone line
said_entry line (Said.Answered answer) = entry.Answered line answer

module _ (trace : Trace) (said : ℕ → List Said) where
  -- What a line reports behind these: a pool's line, how its making is judged; a call's line, what its thread's next
  -- call
  -- came to. Other lines report nothing.
  abbrev pub ActTells : List TraceLine → ℕ → Act → Option ReportEntry → Type 0
  ActTells before line (act.Pool pool) entry = (judged : Judged) × (pool < length trace.pools.items)
      × IsJudged trace pool judged × (entry ≡ made_entry line judged)
  ActTells before line (act.Call thread pool call) entry =
      (one : Said) × (slice_get (said thread) (count_own thread before) ≡ Some one)
      × (entry ≡ Some (said_entry line one))
  ActTells before line other entry = entry ≡ None

  -- the report with what the lines report, in their order
  pub data Reports (first : ReportView) : List TraceLine → ReportView → Type 0 where
    begins : Reports first [] first
    tells : {lines : List TraceLine} {report : ReportView} → Reports first lines report → (line : TraceLine)
        → (entry : Option ReportEntry) → ActTells lines line.line line.act entry
        → Reports first (lines ++ line ∷ []) (with_entry report entry)

-- what the calls of each thread came to is there, for all its lines
pub record AreSaid (trace : Trace) (all : List (Vec Said)) : Type 0 where
  pub count : length all ≡ threads_in trace
  pub enough : (thread : ℕ) → thread < threads_in trace
      → count_own thread trace.lines.items ≤ length (said_by all thread)

-- of each thread all is told of the lines before this place
pub record AreTold (trace : Trace) (place : ℕ) (told : List ℕ) : Type 0 where
  pub count : length told ≡ threads_in trace
  pub each : (thread : ℕ) → thread < threads_in trace
      → slice_get told thread ≡ Some (count_own thread (take place trace.lines.items))

-- the thread has a call that is not told yet
pub record IsNextOf (all : List (Vec Said)) (told : List ℕ) (thread : ℕ) : Type 0 where
  pub there : thread < length all
  pub counted : thread < length told
  pub more : (place : ℕ) → slice_get told thread ≡ Some place → place < length (said_by all thread)
