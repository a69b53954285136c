-- What laws above cite.
pub use Rattle.turn_suits.proofs.Guards.{IsTold, free_tells}
pub use Rattle.turn_suits.proofs.Lengths.{IsListed, listed}
pub use Rattle.turn_suits.proofs.Suits.{turns_suit}
