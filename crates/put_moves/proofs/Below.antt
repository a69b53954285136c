-- What laws of hands say.
pub use Rattle.seat_hands.proofs.CallerLemmas.{hands_lie, each_is_of_hands, others_are_none, hands_stay}
pub use Rattle.seat_hands.proofs.CallerLemmas.{hands_stand_elsewhere, hands_come, hands_leave, hands_merge}
pub use Rattle.seat_hands.proofs.CallerLemmas.{hands_forget, hands_are_read}
