pub mod Places
pub mod Entries
pub mod Runs
pub mod Callbacks
pub mod Laws
