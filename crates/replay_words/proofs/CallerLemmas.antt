-- The lemmas that crates above may cite.
pub use Rattle.replay_words.proofs.ClearWords.{words_are_clear}
