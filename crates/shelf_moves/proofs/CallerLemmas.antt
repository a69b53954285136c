-- What laws above cite.
pub use Rattle.shelf_moves.proofs.Moved.{shelf_turns_are_steps}
