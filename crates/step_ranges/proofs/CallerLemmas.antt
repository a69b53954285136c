-- What laws above cite, and what drives seats.
pub use Rattle.step_ranges.proofs.Steps.{stores_fit, names_fit, step_fits}
pub use Rattle.step_ranges.proofs.Begun.{call_begins_in_range, reset_begins_in_range}
pub use Rattle.step_ranges.proofs.Runs.{is_key, made_fits, silence_fits, run_ranged}
pub use Rattle.step_ranges.proofs.Runs.{words_hold_indices_in_range, course_is_valid}
