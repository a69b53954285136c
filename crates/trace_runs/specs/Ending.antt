-- What is said at the end of a trace.
use Rattle.std.specs.Prelude.{ℕ, ◌+◌, ◌%◌, ◌^◌, List, [], ◌∷◌, length, Option, Some, None}
use Rattle.pool_types.specs.Sums.{capped}
use Rattle.report_text.specs.Reports.{ReportView}
use Rattle.run_report.specs.declared.book.Counts.{Counts}
use Rattle.step_core.specs.Counts.{still_of}
use Rattle.word_totals.specs.Leaking.{leaks_of}
use Rattle.line_runs.specs.Pools.{Pool}
use Rattle.line_runs.specs.Ending.{ended_report}
use Rattle.trace_runs.specs.States.{State}
use Rattle.trace_runs.specs.declared.ends.Summary.{Summary}

-- a report, and what a pool that stands has at the end
abbrev pub slot_ended : ReportView → ℕ → Option Pool → ReportView
slot_ended report number None = report
slot_ended report number (Some pool) = ended_report report number pool.machine

-- each pool that stands, by its number, from this one on
abbrev pub ends_from : ReportView → ℕ → List (Option Pool) → ReportView
ends_from report number [] = report
ends_from report number (slot ∷ pools) = ends_from (slot_ended report (number % 2 ^ 16) slot) (number + 1) pools

abbrev pub reported_by : Option ReportView → List (Option Pool) → Option ReportView
reported_by None pools = None
reported_by (Some report) pools = Some (ends_from report 0 pools)

-- the report of all lines, and then of what stands, where a report is made
abbrev pub reported : State → Option ReportView
reported s = reported_by s.book.report s.pools

-- the summary, with what a pool that stands holds
abbrev pub with_slot : Summary → Option Pool → Summary
with_slot summary None = summary
with_slot summary (Some pool) = record summary {
  leaks = capped (summary.leaks + length (leaks_of (still_of pool.machine)));
  bytes = capped (summary.bytes + pool.machine.totals.bytes);
}

abbrev pub with_slots : Summary → List (Option Pool) → Summary
with_slots summary [] = summary
with_slots summary (slot ∷ pools) = with_slots (with_slot summary slot) pools

abbrev pub counts_summary : Counts → Summary
counts_summary counts = record {
  calls = counts.calls;
  got = counts.got;
  null = counts.null;
  freed = counts.freed;
  leaks = 0;
  bytes = 0;
}

-- the calls and what they came to, and what all pools hold that stand at the end
abbrev pub summary_of : State → Summary
summary_of s = with_slots (counts_summary s.book.counts) s.pools
