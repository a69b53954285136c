-- What laws above cite.
pub use Rattle.office_moves.proofs.Turns.{office_turns_are_steps}
pub use Rattle.office_moves.proofs.Told.{office_turns_are_told}
