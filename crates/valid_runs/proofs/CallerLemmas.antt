-- What laws above cite.
pub use Rattle.valid_runs.proofs.Runs.{calls_hold_indices_in_range, courses_of_calls_are_valid, links_of_calls_lead}
