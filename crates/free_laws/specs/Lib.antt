pub mod Spaces
pub mod Places
pub mod Steps
pub mod Named
pub mod Laws
pub mod Wrong
