pub mod Machines
pub mod Steps
pub mod Turns
pub mod Counts
pub mod Endings
pub mod Resets
