-- What laws above cite.
pub use Rattle.mail_laws.proofs.Seats.{Rely, OnlyAt, Apart, chain-stays, first-among, rest-among}
pub use Rattle.mail_laws.proofs.Rows.{null_is_rest, there-kept, home-kept, in_no_box}
pub use Rattle.mail_laws.proofs.Boxing.{box-inj, fetched-his}
pub use Rattle.mail_laws.proofs.Words.{null-reads, unusable-reads, home-reads, link-reads, end-reads}
pub use Rattle.mail_laws.proofs.Keeps.{adopter_there, word_null, next-item, steps_keep_mail, runs_keep_mail}
