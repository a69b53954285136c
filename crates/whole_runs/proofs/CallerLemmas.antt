-- What laws above cite.
pub use Rattle.whole_runs.proofs.Runs.{runs_are_good, runs_hold_together, seats_stand_between}
