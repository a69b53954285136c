pub mod Entries
pub mod Grants
pub mod Locks
pub mod Pools
pub mod Quiets
