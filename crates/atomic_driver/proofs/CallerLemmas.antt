-- What crates above cite.
pub use Rattle.atomic_driver.proofs.Looks.{at_low, at_some, at_end}
pub use Rattle.atomic_driver.proofs.Allowed.{word_is, found_is, becomes_is, void_finds, void_leaves, no_note, in_slot_by}
pub use Rattle.atomic_driver.proofs.Asked.{some_words, made_is, rule_by}
pub use Rattle.atomic_driver.proofs.Driving.{driven_by}
pub use Rattle.atomic_driver.proofs.Seats.{own_same, noteless, splits_view, own_seats}
