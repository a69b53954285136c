-- What laws above cite.
pub use Rattle.object_moves.proofs.Looks.{locates_turn, looks_turn}
pub use Rattle.object_moves.proofs.Posts.{posts_turn}
pub use Rattle.object_moves.proofs.Grants.{small_turns}
pub use Rattle.object_moves.proofs.Large.{grants_turn}
pub use Rattle.object_moves.proofs.Ends.{ends_turn}
