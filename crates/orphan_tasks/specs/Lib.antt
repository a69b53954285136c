pub mod Orphans
pub mod Starts
pub mod Heaps
pub mod Ties
pub mod Steps
pub mod Laws
