pub mod Units
pub mod Regions
pub mod Leaks
pub mod CallerLemmas
