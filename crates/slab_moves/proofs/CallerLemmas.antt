-- What laws above cite.
pub use Rattle.slab_moves.proofs.Around.{IsOff, free, loose, nothing_drained}
pub use Rattle.slab_moves.proofs.Hands.{range_in, range_out}
pub use Rattle.slab_moves.proofs.Moved.{slab_turns_are_steps}
pub use Rattle.slab_moves.proofs.Turns.{one_change}
