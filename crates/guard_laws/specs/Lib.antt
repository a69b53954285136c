pub mod Blocks
pub mod Steps
pub mod Neighbours
pub mod Named
pub mod Laws
pub mod Wrong
