pub mod Adopting
pub mod Leaving
