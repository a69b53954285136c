pub mod Bins
pub mod Steps
pub mod Scans
pub mod Takes
pub mod Counts
pub mod Named
pub mod Laws
pub mod Wrong
