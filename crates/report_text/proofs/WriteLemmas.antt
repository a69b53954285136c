-- A report's text, and then its end.
use Rattle.std.proofs.Common.{◌≡◌, ℕ, List, sym}
use Rattle.std.specs.declared.option.Option.{Option}
use Rattle.std.specs.Io.KnownBytes.{Appends}
use Rattle.pool_types.specs.Transfers.{IsWrittenPart}
use Rattle.pool_types.proofs.CallerLemmas.{IsWrittenPart-second}
use Rattle.report_text.specs.Entries.{end_text}
use Rattle.report_text.specs.Reports.{ReportView, ended_text}

-- a report's text, and a front of its end
pub ended_part : (a b c : Option (List ℕ)) (report : ReportView) (text : List ℕ) → text ≡ report.text → Appends a b text → IsWrittenPart b c end_text → IsWrittenPart a c (ended_text report)
ended_part a b c report text same first second = IsWrittenPart-second a b c report.text end_text (rw (sym same) first) second
