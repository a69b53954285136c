pub mod Moved
pub mod CallerLemmas
