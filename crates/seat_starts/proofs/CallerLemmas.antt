-- What laws above cite.
pub use Rattle.seat_starts.proofs.Starts.{starts_tie}
pub use Rattle.seat_starts.proofs.Calls.{answers_are_here, begins_are_here}
pub use Rattle.seat_starts.proofs.Objects.{kept_by}
