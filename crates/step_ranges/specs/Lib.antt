pub mod Ranges
pub mod Jobs
pub mod Locals
pub mod Laws
pub mod Named
