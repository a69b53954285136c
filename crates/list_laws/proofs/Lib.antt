pub mod Members
pub mod Counts
pub mod Gets
pub mod Finds
pub mod Sums
