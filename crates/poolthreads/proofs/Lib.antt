mod WantedLemmas
pub mod StatusLemmas
pub mod WordLemmas
