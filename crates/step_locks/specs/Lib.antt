pub mod Holdings
pub mod Jobs
pub mod Positions
pub mod Laws
pub mod UnderLocks
