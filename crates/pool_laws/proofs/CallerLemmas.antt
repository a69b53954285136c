-- What laws above cite.
pub use Rattle.pool_laws.proofs.Moved.{moves_keep_whole, steps_move, steps_keep_whole, runs_keep_whole}
pub use Rattle.pool_laws.proofs.Moved.{fresh_wholes_are_good, wholes_hold_together}
