pub mod Times
pub mod Chains
pub mod Listed
pub mod Walks
pub mod Fronts
pub mod Leaves
pub mod Loads
pub mod CallerLemmas
