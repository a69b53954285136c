pub mod Lists
pub mod Backend
pub mod Whole
pub mod Held
pub mod Good
pub mod Reached
pub mod Counts
