-- What quiet pools have at the end of a trace.
use Rattle.std.specs.Prelude.{ℕ, ◌+◌, ◌%◌, ◌^◌, List, [], ◌∷◌, Option, Some, None}
use Rattle.line_runs.specs.Ending.{bins_to, most_bins}
use Rattle.quiet_pool.specs.Quiet.{Quiet, still_of}
use Rattle.report_text.specs.Reports.{ReportView}
use Rattle.trace_calls.specs.Entries.{pool_end, with_entries}
use Rattle.word_totals.specs.Counting.{totals_of}
use Rattle.word_totals.specs.Leaking.{leaks_of}

module _ {R : Type 0} where
  -- a report, and what the pool of this number has: its totals, its cache, and what is still held
  unfoldable pub ended_report : ReportView → ℕ → Quiet R → ReportView
  ended_report report number q = with_entries report
      (pool_end number (totals_of (still_of q) q.desk.records) (bins_to (still_of q) most_bins)
      (leaks_of (still_of q)))

  abbrev pub slot_ended : ReportView → ℕ → Option (Quiet R) → ReportView
  slot_ended report number None = report
  slot_ended report number (Some q) = ended_report report number q

  -- each pool that was made, by its number, from this one on
  abbrev pub ends_from : ReportView → ℕ → List (Option (Quiet R)) → ReportView
  ends_from report number [] = report
  ends_from report number (slot ∷ pools) = ends_from (slot_ended report (number % 2 ^ 16) slot) (number + 1) pools
