pub mod Seats
pub mod Looks
pub mod Posts
pub mod Below
pub mod Grants
pub mod Large
pub mod Ends
pub mod CallerLemmas
