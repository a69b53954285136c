-- What the lines of a trace report, and what its pools report at the end.
use Rattle.std.specs.Prelude.{ℕ, Bool, true, false, ◌&&◌, List, [], ◌∷◌, ◌++◌, map, is_ok, Some, None}
use Rattle.std.specs.List.{list_any}
use Rattle.std.specs.declared.option.Option.{Option}
use Rattle.pool_types.specs.declared.values.Answer.{Answer}
use Rattle.pool_types.specs.declared.values.Leak.{Leak}
use Rattle.part_model.specs.declared.totals.Totals.{Totals}
use Rattle.trace_reader.specs.declared.acts.Act.{Act}
use Rattle.trace_reader.specs.declared.acts.Act.TheVariants as act
use Rattle.trace_reader.specs.declared.acts.TraceLine.{TraceLine}
use Rattle.report_text.specs.declared.entry.BinNumbers.{BinNumbers}
use Rattle.report_text.specs.declared.entry.ReportEntry.{ReportEntry}
use Rattle.report_text.specs.declared.entry.ReportEntry.TheVariants.{Answered, Total, CacheBin, Leaked}
use Rattle.report_text.specs.Entries.{entry_text, entries_text}
use Rattle.report_text.specs.Reports.{ReportView}
use Rattle.trace_calls.specs.Pools.{Judged, made_entry}

-- the entry before the others, if there is one
abbrev pub listed : Option ReportEntry → List ReportEntry → List ReportEntry
listed None entries = entries
listed (Some entry) entries = entry ∷ entries

-- what a line reports, and then what the later ones report, where these are the answers
abbrev pub reports : (List Answer → List ReportEntry) → Judged → ℕ → Act → List Answer → List ReportEntry
reports later judged line (act.Pool pool) answers = listed (made_entry line judged) (later answers)
reports later judged line (act.Call thread pool call) [] = later []
reports later judged line (act.Call thread pool call) (answer ∷ answers) = Answered line answer ∷ later answers
reports later judged line other answers = later answers

-- What the lines report, where the making of a pool is judged so, and each call takes the next of the answers. Other
-- lines report nothing.
abbrev pub line_entries : Judged → List TraceLine → List Answer → List ReportEntry
line_entries judged [] answers = []
line_entries judged (line ∷ lines) answers =
    reports (λ given. line_entries judged lines given) judged line.line line.act answers

-- the line makes a pool, where that is allowed
abbrev pub is_pool : Act → Bool
is_pool (act.Pool pool) = true
is_pool other = false

abbrev pub is_pool_line : TraceLine → Bool
is_pool_line line = is_pool line.act

-- a pool was made
abbrev pub has_pool : Judged → List TraceLine → Bool
has_pool judged lines = is_ok judged && list_any is_pool_line lines

-- the entry of a bin of a pool's cache
abbrev pub cached : ℕ → BinNumbers → ReportEntry
cached pool bin = CacheBin pool bin

-- the entry of an object that is still held
abbrev pub leaked : Leak → ReportEntry
leaked leak = Leaked leak

-- what a pool reports at the end: its totals, the bins of its cache and each object that is still held
abbrev pub pool_end : ℕ → Totals → List BinNumbers → List Leak → List ReportEntry
pool_end pool totals bins leaks = Total pool totals ∷ (map (cached pool) bins ++ map leaked leaks)

-- what is reported at the end where there is one pool without a cache, or none
abbrev pub end_entries : Bool → Totals → List Leak → List ReportEntry
end_entries false totals leaks = []
end_entries true totals leaks = pool_end 0 totals [] leaks

-- a report with one entry more, if there is one
abbrev pub with_entry : ReportView → Option ReportEntry → ReportView
with_entry report None = report
with_entry report (Some entry) = record { names = report.names; text = report.text ++ entry_text report.names entry }

-- a report with these entries more
abbrev pub with_entries : ReportView → List ReportEntry → ReportView
with_entries report entries = record { names = report.names; text = report.text ++ entries_text report.names entries }
