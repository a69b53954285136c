pub mod Status
pub mod Granules
pub mod Pools
pub mod Keeps
pub mod Examples
pub mod CallerLemmas
