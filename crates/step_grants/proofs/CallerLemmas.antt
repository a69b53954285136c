-- What laws above cite: of any callback, what holds of grants in each state and between two.
pub use Rattle.step_grants.proofs.Silence.{silence_stays}
pub use Rattle.step_grants.proofs.Runs.{AllFit, run_numbers, run_fits, run_returns, are_distinct}
