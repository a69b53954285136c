pub mod Names
pub mod Pools
pub mod Entries
pub mod Kept
