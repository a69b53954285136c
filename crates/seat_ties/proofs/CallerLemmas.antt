-- What laws above cite.
pub use Rattle.seat_ties.proofs.Fresh.{fresh_seats_are_tied}
pub use Rattle.seat_ties.proofs.Here.{desk_starts, elsewhere_leaves_office, turns_start_desks}
pub use Rattle.seat_ties.proofs.Left.{turns_keep_what_is_said, seats_left_are_here}
pub use Rattle.seat_ties.proofs.Runs.{runs_go_on}
pub use Rattle.seat_ties.proofs.Nothing.{bare_says_nothing, nothing_is_said_elsewhere}
pub use Rattle.seat_ties.proofs.Scans.{scans_say_on}
