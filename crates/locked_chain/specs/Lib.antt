pub mod Insert
pub mod Locks
pub mod Remove
