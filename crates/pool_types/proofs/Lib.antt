pub mod Bases
pub mod CallerLemmas
pub mod Lists
pub mod Reading
