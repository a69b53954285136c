pub mod Wholes
pub mod Changes
pub mod Moves
pub mod Steps
pub mod Named
pub mod Laws
