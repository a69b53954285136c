pub mod Tallies
pub mod Leading
pub mod ChainsInWords
pub mod Pushes
pub mod Seats
pub mod Examples
pub mod CallerLemmas
