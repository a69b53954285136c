-- What laws above cite.
pub use Rattle.office_laws.proofs.Words.{SameWords, same_after, same_keeps}
pub use Rattle.office_laws.proofs.Seats.{free_fits, one_holder, goes_on, fits_at}
pub use Rattle.office_laws.proofs.Keeps.{steps_keep_office, runs_keep_office}
pub use Rattle.office_laws.proofs.Examples.{at_office, later_run}
pub use Rattle.office_laws.proofs.Obtained.{obtained_regions_are_fresh}
pub use Rattle.office_laws.proofs.Homes.{records_at_home_are_those_of_the_words}
pub use Rattle.office_laws.proofs.Homes.{granules_are_outside_where_no_word_has_them, loaded_regions_stay}
