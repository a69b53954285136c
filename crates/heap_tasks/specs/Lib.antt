pub mod Heaps
pub mod Stages
pub mod Notes
pub mod Laws
