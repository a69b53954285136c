pub mod Seats
pub mod Rows
pub mod Boxing
pub mod Words
pub mod Keeps
pub mod Examples
pub mod CallerLemmas
