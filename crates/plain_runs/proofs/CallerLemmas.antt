-- What proofs of other crates cite of these.
pub use Rattle.plain_runs.proofs.Journals.{granted_whole, whole_calls_run, whole_calls_hold}
pub use Rattle.plain_runs.proofs.RawCalls.{first_by_rule}
