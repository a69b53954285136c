pub mod Words
pub mod Seats
pub mod Keeps
pub mod Examples
pub mod Obtained
pub mod Homes
pub mod CallerLemmas
