pub mod Actions
pub mod Jobs
pub mod Positions
pub mod Lists
pub mod Only
pub mod CallerLemmas
