-- What laws above cite.
pub use Rattle.path_laws.proofs.Runs.{runs_pay, seen_loss, ready_word, joined}
pub use Rattle.path_laws.proofs.Parts.{IsResting, IsUnderway, Begins, TurnsTo, call_begins, turn_of_call, goes_on}
pub use Rattle.path_laws.proofs.Parts.{no_answer, rest_owes}
