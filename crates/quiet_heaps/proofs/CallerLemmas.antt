-- What crates above cite.
pub use Rattle.quiet_heaps.proofs.Places.{in_places}
