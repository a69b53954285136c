-- What callers cite: the laws of traces.
pub use Rattle.trace_reader.proofs.OneText.{traces_are_clear}
pub use Rattle.trace_reader.proofs.PlainShape.{plain_traces_have_one_shape}
pub use Rattle.trace_reader.proofs.ServedLaws.{lines_are_numbered}
pub use Rattle.trace_reader.proofs.NamesInTurn.{names_are_bound_in_turn}
pub use Rattle.trace_reader.proofs.OneSlot.{places_are_read_back, rows_are_read_back}
