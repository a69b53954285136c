pub mod Tasks
pub mod Desks
pub mod Laws
