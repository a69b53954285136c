pub mod Away
pub mod Small
pub mod Large
pub mod Backend
pub mod Begun
pub mod Turns
pub mod CallerLemmas
