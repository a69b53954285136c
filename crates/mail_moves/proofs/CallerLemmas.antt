-- What laws above cite.
pub use Rattle.mail_moves.proofs.Turns.{mail_turns_are_steps}
