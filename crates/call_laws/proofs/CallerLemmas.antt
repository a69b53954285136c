-- What callers cite: the laws of calls.
pub use Rattle.call_laws.proofs.Turns.{turns_keep_calls, answers_alone, calls_begin}
