-- What callers may cite.
pub use Rattle.thread_calls.proofs.TurnLemmas.{bound_in_turn, owner_at, owners_below, owners_up, owners_on, asked_below, next_is, own_is, own_below, own_more}
