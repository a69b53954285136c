pub mod Writings
pub mod Jobs
pub mod Positions
pub mod Kinds
pub mod Laws
