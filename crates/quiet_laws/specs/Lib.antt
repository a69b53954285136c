pub mod Homes
pub mod Resets
