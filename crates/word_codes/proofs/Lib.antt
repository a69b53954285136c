pub mod CallerLemmas
pub mod ReadBack
pub mod Regions
pub mod Sums
