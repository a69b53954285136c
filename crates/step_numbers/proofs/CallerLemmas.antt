-- What laws above cite: what a turn keeps, with the number of the seat's last grant.
pub use Rattle.step_numbers.proofs.Turns.{Stays, number_left, stays_learnt, stays_begun, stays_reset, granted_next}
pub use Rattle.step_numbers.proofs.Turns.{made_fits, turns_keep_numbers}
