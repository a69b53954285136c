pub mod Locks
pub mod Lists
pub mod Steps
pub mod Runs
pub mod Seats
pub mod Named
pub mod Wrong
pub mod Laws
