-- What laws above cite.
pub use Rattle.seat_hands.proofs.Hands.{each_is_of_hands, hands_lie, hands_stand_elsewhere, hands_stay}
pub use Rattle.seat_hands.proofs.Hands.{others_are_none, outside_is_none}
pub use Rattle.seat_hands.proofs.Moves.{hands_come, hands_leave}
pub use Rattle.seat_hands.proofs.Joins.{hands_are_read, hands_forget, hands_merge, hands_split}
