-- What callers cite: names that stand for the same ask the same, and still do after a call.
pub use Rattle.trace_calls.proofs.NameLemmas.{request_same, after_same}
