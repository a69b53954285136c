pub mod Granules
pub mod Steps
pub mod Named
pub mod Laws
pub mod Wrong
