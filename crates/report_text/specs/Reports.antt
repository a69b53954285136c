-- What a report is seen as, and whose entries it has.
use Rattle.std.specs.Prelude.{◌≡◌, ℕ, List, ◌++◌}
use Rattle.report_text.specs.declared.entry.ReportEntry.{ReportEntry}
use Rattle.report_text.specs.Entries.{entries_text, end_text}

-- the names of the threads by their seats, and the texts of the entries so far
pub record ReportView : Type 0 where
  pub names : List (List ℕ)
  pub text : List ℕ

-- its text, and then `end`
abbrev pub ended_text : ReportView → List ℕ
ended_text report = report.text ++ end_text

-- the report has these entries, in this order
abbrev pub HasEntries : ReportView → List ReportEntry → Type 0
HasEntries report entries = report.text ≡ entries_text report.names entries
