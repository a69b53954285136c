-- What laws above cite.
pub use Rattle.begun_laws.proofs.Hands.{new_slabs_are_none, tied_seats_hold}
pub use Rattle.begun_laws.proofs.Steps.{fresh_begun_fits, steps_keep_begun}
