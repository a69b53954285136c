-- What a pool reports at the end, part after part.
use Rattle.std.proofs.Common.{◌≡◌, ℕ, List, ◌∷◌, ◌++◌, sym, ◌∙◌, ap, append_assoc, map}
use Rattle.std.specs.Prelude.{OnOk, Result, Ok, Err}
use Rattle.pool_types.specs.declared.values.Leak.{Leak}
use Rattle.part_model.specs.declared.totals.Totals.{Totals}
use Rattle.report_text.specs.declared.entry.BinNumbers.{BinNumbers}
use Rattle.report_text.specs.declared.entry.ReportEntry.{ReportEntry}
use Rattle.report_text.specs.declared.entry.ReportEntry.TheVariants.{Total}
use Rattle.report_text.specs.Entries.{entry_text, entries_text}
use Rattle.report_text.specs.Reports.{ReportView}
use Rattle.report_text.proofs.CallerLemmas.{entries_text-append}
use Rattle.trace_calls.specs.Entries.{cached, leaked, pool_end, with_entries}

-- the text of a report
abbrev of_text : ReportView → List ℕ → ReportView
of_text report text = record { names = report.names; text = text }

-- entries and then others
with_both : (report : ReportView) (entries more : List ReportEntry) → with_entries (with_entries report entries) more ≡ with_entries report (entries ++ more)
with_both report entries more =
    ap (of_text report)
    (append_assoc report.text (entries_text report.names entries) (entries_text report.names more)
    ∙ ap (λ (text : List ℕ). report.text ++ text) (sym (entries_text-append report.names entries more)))

-- an entry and then others
with_first : (report : ReportView) (entry : ReportEntry) (entries : List ReportEntry) → with_entries (of_text report (report.text ++ entry_text report.names entry)) entries ≡ with_entries report (entry ∷ entries)
with_first report entry entries = ap (of_text report) (append_assoc report.text (entry_text report.names entry) (entries_text report.names entries))

-- the totals, the bins, and then the objects
pub pool_ended : {A E : Type 0} (added : Result A E) (start first second last : ReportView) (pool : ℕ) (totals : Totals) (bins : List BinNumbers) (leaks : List Leak) →
    first ≡ record { names = start.names; text = start.text ++ entry_text start.names (Total pool totals) } → second ≡ with_entries first (map (cached pool) bins) →
    OnOk added (last ≡ with_entries second (map leaked leaks)) → OnOk added (last ≡ with_entries start (pool_end pool totals bins leaks))
pool_ended (Ok done) start first second last pool totals bins leaks one two three =
    three
    ∙ ap (λ (report : ReportView). with_entries report (map leaked leaks)) two
    ∙ with_both first (map (cached pool) bins) (map leaked leaks)
    ∙ ap (λ (report : ReportView). with_entries report (map (cached pool) bins ++ map leaked leaks)) one
    ∙ with_first start (Total pool totals) (map (cached pool) bins ++ map leaked leaks)
pool_ended (Err failed) start first second last pool totals bins leaks one two three = tt
