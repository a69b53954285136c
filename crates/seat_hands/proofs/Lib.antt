pub mod Lists
pub mod Hands
pub mod Changes
pub mod Moves
pub mod Joins
pub mod CallerLemmas
