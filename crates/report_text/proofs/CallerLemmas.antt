-- What callers cite: the texts of entries and of more behind them.
pub use Rattle.report_text.proofs.EntryLemmas.{entries_text-append}
