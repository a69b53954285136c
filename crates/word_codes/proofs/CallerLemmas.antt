-- What proofs of other crates cite of these.
pub use Rattle.word_codes.proofs.ReadBack.{guards_read_back, kinds_read_back, links_read_back, locks_read_back, marks_read_back, nexts_read_back, owns_read_back, publics_read_back, queue_links_read_back}
pub use Rattle.word_codes.proofs.Regions.{offsets_read_back, regions_read_back}
pub use Rattle.word_codes.proofs.Sums.{capped_is}
