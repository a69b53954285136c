-- The run of a whole trace by threads.
use Rattle.std.specs.Prelude.{◌≡◌, ℕ, ◌<◌, List, Option}
use Rattle.quiet_pool.specs.Quiet.{Quiet}
use Rattle.report_text.specs.Reports.{ReportView}
use Rattle.thread_calls.specs.declared.calls.Said.{Said}
use Rattle.trace_reader.specs.declared.trace.Trace.{Trace}
use Rattle.trace_runs.specs.Runs.{empty_report}
use Rattle.thread_runs.specs.Traces.{AreMadeAs, threads_in}
use Rattle.thread_runs.specs.Gathering.{IsPath, quiet_plan}
use Rattle.thread_runs.specs.Paying.{HaveEarned}
use Rattle.thread_runs.specs.Telling.{Reports}
use Rattle.thread_runs.specs.Ending.{ends_from}

-- the name has this word
abbrev pub IsWord : (ℕ → ℕ) → ℕ → ℕ → Type 0
IsWord words name word = words name ≡ word

module _ {R : Type 0} (trace : Trace) where
  -- The threads have run their lines: each pool was made as its making was judged, each name has one word for all
  -- threads, what a thread's calls came to is what its heaps answered, and what these have granted and freed is what
  -- those calls say.
  pub record IsServed (said : ℕ → List Said) (pools : List (Option (Quiet R))) : Type 0 where
    pub made : AreMadeAs quiet_plan trace pools
    pub words : ℕ → ℕ
    pub paths : (thread : ℕ) → thread < threads_in trace →
        IsPath (IsWord words) pools trace.lines.items thread (said thread)
    pub earned : (thread : ℕ) → thread < threads_in trace →
        HaveEarned (IsWord words) trace.lines.items thread (said thread) pools

  -- the report of what the lines came to, in their order, and then of what the pools have
  pub record IsTold (said : ℕ → List Said) (pools : List (Option (Quiet R))) (report : ReportView) : Type 0 where
    pub lines : ReportView
    pub told : Reports trace said (empty_report trace) trace.lines.items lines
    pub ended : report ≡ ends_from lines 0 pools

  -- the threads have run their lines, and this is the report
  pub record IsRan (report : ReportView) (pools : List (Option (Quiet R))) : Type 0 where
    pub said : ℕ → List Said
    pub served : IsServed said pools
    pub is_told : IsTold said pools report
