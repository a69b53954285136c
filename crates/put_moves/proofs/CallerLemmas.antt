-- What laws above cite.
pub use Rattle.put_moves.proofs.Puts.{puts_turn}
pub use Rattle.put_moves.proofs.Drains.{drains_turn}
