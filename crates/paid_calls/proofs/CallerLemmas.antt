-- What crates above cite.
pub use Rattle.paid_calls.proofs.Calls.{call_pays}
pub use Rattle.paid_calls.proofs.Lines.{lines_earn}
