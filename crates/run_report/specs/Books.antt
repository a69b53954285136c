-- What the lines of a trace write and count.
use Rattle.std.specs.Prelude.{ℕ, ◌+◌, ◌++◌, List, Option, Some, None}
use Rattle.pool_types.specs.Sums.{capped}
use Rattle.pool_types.specs.declared.values.Answer.{Answer}
use Rattle.pool_types.specs.declared.values.Answer.TheVariants.{Got, Null, Freed, False, Size, Pool, NoPool, NotHeld, Exited}
use Rattle.report_text.specs.declared.entry.ReportEntry.{ReportEntry}
use Rattle.report_text.specs.Entries.{entry_text}
use Rattle.report_text.specs.Reports.{ReportView}
use Rattle.run_report.specs.declared.book.Book.{Book}
use Rattle.run_report.specs.declared.book.Counts.{Counts}

-- a report with one entry more
abbrev pub added : ReportView → ReportEntry → ReportView
added report entry = record { names = report.names; text = report.text ++ entry_text report.names entry }

-- the same, where one is made
abbrev pub added_to : Option ReportView → ReportEntry → Option ReportView
added_to None entry = None
added_to (Some report) entry = Some (added report entry)

abbrev pub noted : Book → ReportEntry → Book
noted book entry = record book { report = added_to book.report entry }

abbrev pub noted_some : Book → Option ReportEntry → Book
noted_some book None = book
noted_some book (Some entry) = noted book entry

-- one call more
abbrev pub called : Book → Book
called book = record book { counts = record book.counts { calls = capped (book.counts.calls + 1) } }

-- one call more that was answered so
abbrev pub counts_with : Counts → Answer → Counts
counts_with counts (Got place usable grant) = record counts { got = capped (counts.got + 1) }
counts_with counts (Null cause) = record counts { null = capped (counts.null + 1) }
counts_with counts Freed = record counts { freed = capped (counts.freed + 1) }
counts_with counts False = counts
counts_with counts (Size size) = counts
counts_with counts (Pool pool) = counts
counts_with counts NoPool = counts
counts_with counts (NotHeld found) = counts
counts_with counts Exited = counts

abbrev pub counted : Book → Answer → Book
counted book answer = record book { counts = counts_with book.counts answer }
