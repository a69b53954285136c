-- What laws above cite.
pub use Rattle.seat_laws.proofs.Tied.{seats_left_alone_are_tied}
pub use Rattle.seat_laws.proofs.Steps.{others_steps_leave_seats, steps_leave_others}
