pub mod Moved
pub mod Positions
pub mod Laws
