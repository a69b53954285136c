-- The lemmas that crates above may cite.
pub use Rattle.run_laws.proofs.Makings.{checks_once}
pub use Rattle.run_laws.proofs.Texts.{AreSpelledAlike, spelled_alike, threads_alike, texts_run_to_one, texts_sum_to_one}
