-- What a change leaves of each part.
pub mod Marks
pub mod Out
pub mod Once
pub mod Chains
pub mod Counts
